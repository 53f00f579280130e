use Rattle.sml_module_laws.proofs.Made.{structures-speak}
use Rattle.sml_module_laws.proofs.laws.structures_speak_of_what_was_made.Goals as goal

pub returns : goal.returns
returns c = structures-speak
