use Rattle.std.proofs.Common.{take}
use Rattle.sml_graph.specs.CodeRanks.{FindsUnordered}
use Rattle.sml_graph.proofs.orders.push_unordered.Given as goal

abbrev pub invariant-loop-part : goal.invariant-loop-part
invariant-loop-part l = FindsUnordered l.orders (take l.part-index l.parts) l.order l.initial.found.items l.found.items
