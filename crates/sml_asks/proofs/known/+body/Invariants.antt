use Rattle.std.proofs.Common.{take}
use Rattle.sml_objects.specs.Objects.{types_of}
use Rattle.sml_objects.proofs.TypeViews.{parts_of}
use Rattle.sml_graph.specs.Interned.{AreBodiesOver}
use Rattle.sml_asks.proofs.known.+body.Given as goal

abbrev pub invariant-are_bodies_over-loop-part : goal.invariant-are_bodies_over-loop-part
invariant-are_bodies_over-loop-part l = AreBodiesOver l.variables l.count (types_of (parts_of (take l.part-index l.parts)))
