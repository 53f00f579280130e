use Rattle.sml_graph.proofs.Saying.{says-its-demands}
use Rattle.sml_graph.proofs.laws.solvers_say_their_demands.Goals as goal

pub returns : goal.returns
returns c = says-its-demands
