use Rattle.std.proofs.Common.{drop}
use Rattle.sml_objects.specs.Views.{type_of}
use Rattle.sml_graph.specs.Interned.{IsInterning, seen, sizes}
use Rattle.sml_graph.proofs.intern.intern.Given as goal

abbrev pub invariant-loop-next : goal.invariant-loop-next
invariant-loop-next l = IsInterning l.initial.nodes.items l.unknowns (type_of l.ty) l.nodes.items (seen l.types.items) l.next

abbrev pub decreases-loop-next : goal.decreases-loop-next
decreases-loop-next l = sizes (drop l.next (seen l.types.items))
