use Rattle.sml_core_laws.proofs.Made.{readings-speak}
use Rattle.sml_core_laws.proofs.laws.readings_speak_of_what_was_made.Goals as goal

pub returns : goal.returns
returns c = readings-speak
