use Rattle.sml_asks.proofs.Variables.{types-fix-as-variables}
use Rattle.sml_asks.proofs.laws.types_fix_as_variables.Goals as goal

pub returns : goal.returns
returns c = types-fix-as-variables
