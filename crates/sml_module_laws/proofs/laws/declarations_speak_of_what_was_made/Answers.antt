use Rattle.sml_module_laws.proofs.Made.{declarations-speak}
use Rattle.sml_module_laws.proofs.laws.declarations_speak_of_what_was_made.Goals as goal

pub returns : goal.returns
returns c = declarations-speak
