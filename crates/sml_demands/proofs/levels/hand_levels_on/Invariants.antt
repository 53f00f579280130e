use Rattle.std.proofs.Common.{◌≡◌, ℕ, ◌+◌, ◌≤◌, ◌∷◌, [], length}
use Rattle.sml_graph.specs.Changes.{AreInside}
use Rattle.sml_schemes.specs.Fixed.{IsFixedBy}
use Rattle.sml_demands.specs.CodeLevels.{level_at, levels_sum, AreHandedBut}
use Rattle.sml_demands.proofs.levels.hand_levels_on.Given as goal

abbrev pub invariant-loop-change : goal.invariant-loop-change
invariant-loop-change l = record {
  len : length l.levels.items ≡ length l.nodes;
  inside : AreInside (length l.levels.items) l.pending.items;
  but : AreHandedBut l.nodes l.levels.items l.pending.items;
  under : (i : ℕ) → level_at l.levels.items i ≤ level_at l.fn.levels.items i;
  from : (i : ℕ) → (j : ℕ) × (level_at l.levels.items i ≡ level_at l.fn.levels.items j) × IsFixedBy l.nodes (j ∷ []) i;
}

abbrev pub decreases-loop-change : goal.decreases-loop-change
decreases-loop-change l = levels_sum l.levels.items + length l.pending.items
