use Rattle.std.proofs.Common.{take}
use Rattle.sml_graph.specs.Limits.{Lowers}
use Rattle.sml_graph.proofs.limits.lower_all.Given as goal

abbrev pub invariant-loop-part : goal.invariant-loop-part
invariant-loop-part l = Lowers l.initial.limits l.initial.pending.items (take l.part-index l.parts) l.limit l.limits l.pending.items
