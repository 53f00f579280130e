use Rattle.sml_reach.proofs.OneOutcome.{fitting_one}
use Rattle.sml_reach.proofs.laws.fitting_is_unique.Goals as goal

pub returns : goal.returns
returns c = fitting_one
