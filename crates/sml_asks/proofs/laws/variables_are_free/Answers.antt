use Rattle.sml_asks.proofs.Freeing.{variables-are-free}
use Rattle.sml_asks.proofs.laws.variables_are_free.Goals as goal

pub returns : goal.returns
returns c = variables-are-free
