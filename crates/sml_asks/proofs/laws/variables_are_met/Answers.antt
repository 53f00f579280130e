use Rattle.sml_asks.proofs.Scoping.{variables-are-met}
use Rattle.sml_asks.proofs.laws.variables_are_met.Goals as goal

pub returns : goal.returns
returns c = variables-are-met
