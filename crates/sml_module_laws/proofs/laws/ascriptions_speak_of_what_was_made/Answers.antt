use Rattle.sml_module_laws.proofs.Made.{ascriptions-speak}
use Rattle.sml_module_laws.proofs.laws.ascriptions_speak_of_what_was_made.Goals as goal

pub returns : goal.returns
returns c = ascriptions-speak
