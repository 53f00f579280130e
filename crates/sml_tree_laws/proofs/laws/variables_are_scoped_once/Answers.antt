use Rattle.sml_tree_laws.proofs.Units.{scoped_once}
use Rattle.sml_tree_laws.proofs.laws.variables_are_scoped_once.Goals as goal

pub returns : goal.returns
returns c = scoped_once
