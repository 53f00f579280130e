use Rattle.sml_fixity.proofs.Alike.{one_expression}
use Rattle.sml_fixity.proofs.laws.names_decide.Goals as goal

pub returns : goal.returns
returns c = one_expression
