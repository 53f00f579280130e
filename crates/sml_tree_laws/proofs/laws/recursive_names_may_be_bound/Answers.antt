use Rattle.sml_tree_laws.proofs.Units.{recursive_names}
use Rattle.sml_tree_laws.proofs.laws.recursive_names_may_be_bound.Goals as goal

pub returns : goal.returns
returns c = recursive_names
