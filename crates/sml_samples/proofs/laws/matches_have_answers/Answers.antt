use Rattle.sml_samples.proofs.Matches.{match-samples}
use Rattle.sml_samples.proofs.laws.matches_have_answers.Goals as goal

pub returns : goal.returns
returns c = match-samples
