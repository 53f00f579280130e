use Rattle.sml_samples.proofs.Specifications.{specification-samples}
use Rattle.sml_samples.proofs.laws.specifications_have_answers.Goals as goal

pub returns : goal.returns
returns c = specification-samples
