use Rattle.sml_fixity.proofs.Trees.{same_tree}
use Rattle.sml_fixity.proofs.laws.tree_is_unique.Goals as goal

pub returns : goal.returns
returns c = same_tree
