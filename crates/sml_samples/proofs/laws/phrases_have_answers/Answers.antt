use Rattle.sml_samples.proofs.Phrases.{phrase-samples}
use Rattle.sml_samples.proofs.laws.phrases_have_answers.Goals as goal

pub returns : goal.returns
returns c = phrase-samples
