use Rattle.sml_objects.proofs.TypeViews.{type_of-free}
use Rattle.sml_graph.proofs.Interning.{over-free}
use Rattle.sml_solve_tests.proofs.script.types.free.Goals as goal

pub returns : goal.returns
returns c n h = rw (type_of-free c.args.number) (over-free n c.args.number h)
