use Rattle.sml_module_laws.proofs.Made.{tops-speak}
use Rattle.sml_module_laws.proofs.laws.readings_of_modules_speak_of_what_was_made.Goals as goal

pub returns : goal.returns
returns c = tops-speak
