use Rattle.sml_asks.proofs.Making.{names-are-bounds}
use Rattle.sml_asks.proofs.laws.names_are_bounds.Goals as goal

pub returns : goal.returns
returns c = names-are-bounds
