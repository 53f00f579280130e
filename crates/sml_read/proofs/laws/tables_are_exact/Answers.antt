use Rattle.sml_read.proofs.Exact.{tables_exact}
use Rattle.sml_read.proofs.laws.tables_are_exact.Goals as goal

pub returns : goal.returns
returns c = tables_exact
