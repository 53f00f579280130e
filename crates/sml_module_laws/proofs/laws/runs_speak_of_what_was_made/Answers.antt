use Rattle.sml_module_laws.proofs.Runs.{runs-speak}
use Rattle.sml_module_laws.proofs.laws.runs_speak_of_what_was_made.Goals as goal

pub returns : goal.returns
returns c = runs-speak
