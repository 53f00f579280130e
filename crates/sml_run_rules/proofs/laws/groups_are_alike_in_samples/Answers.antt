use Rattle.sml_run_rules.proofs.Samples.{likeness-samples}
use Rattle.sml_run_rules.proofs.laws.groups_are_alike_in_samples.Goals as goal

pub returns : goal.returns
returns c = likeness-samples
