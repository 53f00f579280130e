use Rattle.sml_run_rules.proofs.JudgedSamples.{warning-samples}
use Rattle.sml_run_rules.proofs.laws.warnings_are_told_in_samples.Goals as goal

pub returns : goal.returns
returns c = warning-samples
