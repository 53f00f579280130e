use Rattle.sml_parse.proofs.OneList.{trees_one}
use Rattle.sml_parse.proofs.laws.trees_are_unique.Goals as goal

pub returns : goal.returns
returns c = trees_one
