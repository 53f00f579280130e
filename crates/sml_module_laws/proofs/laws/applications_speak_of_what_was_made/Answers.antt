use Rattle.sml_module_laws.proofs.Made.{applications-speak}
use Rattle.sml_module_laws.proofs.laws.applications_speak_of_what_was_made.Goals as goal

pub returns : goal.returns
returns c = applications-speak
