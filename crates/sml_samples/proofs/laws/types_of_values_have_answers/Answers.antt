use Rattle.sml_samples.proofs.Typings.{typing-samples}
use Rattle.sml_samples.proofs.laws.types_of_values_have_answers.Goals as goal

pub returns : goal.returns
returns c = typing-samples
