use Rattle.sml_module_rules.proofs.RunSeals.{runs-hide}
use Rattle.sml_module_rules.proofs.laws.runs_hide.Goals as goal

pub returns : goal.returns
returns c = runs-hide
