use Rattle.sml_asks.proofs.Allowing.{names-so-far-are-allowed}
use Rattle.sml_asks.proofs.laws.names_so_far_are_allowed.Goals as goal

pub returns : goal.returns
returns c = names-so-far-are-allowed
