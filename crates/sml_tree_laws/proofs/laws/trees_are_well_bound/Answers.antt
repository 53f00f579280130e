use Rattle.sml_tree_laws.proofs.Units.{well_bound}
use Rattle.sml_tree_laws.proofs.laws.trees_are_well_bound.Goals as goal

pub returns : goal.returns
returns c = well_bound
