use Rattle.sml_tree_laws.proofs.KindWalk.{none_made_up}
use Rattle.sml_tree_laws.proofs.laws.no_part_is_made_up.Goals as goal

pub returns : goal.returns
returns c = none_made_up
