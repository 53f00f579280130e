use Rattle.std.proofs.Common.{ℕ, ◌+◌, ◌<◌, ◌≤◌, length, take, get_or}
use Rattle.sml_graph.specs.declared.change.Change.{Change}
use Rattle.sml_graph.specs.Changes.{AreCovered, AreInside, NodesRise}
use Rattle.sml_graph.proofs.change.fewest.Given as goal

abbrev pub invariant-loop-change : goal.invariant-loop-change
invariant-loop-change l = record {
  covers : AreCovered (take l.change-index l.change-items) l.few.items;
  inside : (n : ℕ) → AreInside n l.change-items → AreInside n l.few.items;
  rise : NodesRise l.few.items;
  below : (k : ℕ) (d : Change) → l.change-index ≤ k → k < length l.change-items → AreInside ((get_or l.change-items k d).node + 1) l.few.items;
}
