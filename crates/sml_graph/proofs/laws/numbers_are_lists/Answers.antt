use Rattle.sml_graph.proofs.Saying.{numbers-are-lists}
use Rattle.sml_graph.proofs.laws.numbers_are_lists.Goals as goal

pub returns : goal.returns
returns c = numbers-are-lists
