use Rattle.sml_asks.proofs.Making.{unknowns-are-steps}
use Rattle.sml_asks.proofs.laws.unknowns_are_steps.Goals as goal

pub returns : goal.returns
returns c = unknowns-are-steps
