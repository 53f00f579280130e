use Rattle.std.proofs.Common.{◌≡◌, ◌+◌, length}
use Rattle.sml_graph.specs.Graphs.{IsSound, ArePairsIn, SameSolutions, weight}
use Rattle.sml_graph.specs.Changes.{Changes}
use Rattle.sml_graph.proofs.merge.solve.Given as goal

abbrev pub invariant-loop-left : goal.invariant-loop-left
invariant-loop-left l = record {
  len : length l.nodes.items ≡ length l.initial.nodes.items;
  sound : IsSound l.nodes.items;
  inside : ArePairsIn (length l.nodes.items) l.pending.items;
  same : SameSolutions l.initial.nodes.items l.initial.pending.items l.nodes.items l.pending.items;
  changes : Changes l.initial.nodes.items l.initial.changed.items l.nodes.items l.changed.items;
}

abbrev pub decreases-loop-left : goal.decreases-loop-left
decreases-loop-left l = weight l.nodes.items + length l.pending.items
