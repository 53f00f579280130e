use Rattle.sml_run_rules.proofs.OneWarnings.{warnings-are-one}
use Rattle.sml_run_rules.proofs.laws.warnings_are_one.Goals as goal

pub returns : goal.returns
returns c = warnings-are-one
