use Rattle.sml_asks.proofs.Making.{names-are-steps}
use Rattle.sml_asks.proofs.laws.names_are_steps.Goals as goal

pub returns : goal.returns
returns c = names-are-steps
