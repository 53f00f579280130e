use Rattle.sml_module_laws.proofs.Made.{signatures-speak}
use Rattle.sml_module_laws.proofs.laws.signatures_speak_of_what_was_made.Goals as goal

pub returns : goal.returns
returns c = signatures-speak
