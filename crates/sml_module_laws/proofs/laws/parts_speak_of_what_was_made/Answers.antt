use Rattle.sml_module_laws.proofs.Made.{parts-speak}
use Rattle.sml_module_laws.proofs.laws.parts_speak_of_what_was_made.Goals as goal

pub returns : goal.returns
returns c = parts-speak
