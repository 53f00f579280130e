use Rattle.sml_asks.proofs.Numbering.{names-are-made}
use Rattle.sml_asks.proofs.laws.names_are_made.Goals as goal

pub returns : goal.returns
returns c = names-are-made
