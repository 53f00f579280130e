use Rattle.sml_samples.proofs.Judgings.{judged-samples}
use Rattle.sml_samples.proofs.laws.patterns_are_to_be_judged.Goals as goal

pub returns : goal.returns
returns c = judged-samples
