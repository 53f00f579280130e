use Rattle.sml_asks.proofs.Making.{answers-are-of-scripts}
use Rattle.sml_asks.proofs.laws.answers_are_of_scripts.Goals as goal

pub returns : goal.returns
returns c = answers-are-of-scripts
