use Rattle.std.proofs.Common.{◌≡◌, ◌↔◌, ℕ, ◌<◌, ◌≤◌, length}
use Rattle.std.specs.Prelude.{slice_index}
use Rattle.sml_graph.specs.Graphs.{IsSame, IsRoot}
use Rattle.sml_schemes.specs.Fixed.{IsMarked}
use Rattle.sml_demands.specs.CodeLevels.{IsHeld}
use Rattle.sml_demands.proofs.levels.held_unknowns.Given as goal

abbrev pub invariant-loop-index : goal.invariant-loop-index
invariant-loop-index l = record {
  len : length l.flags.items ≡ l.index;
  first : (v : ℕ) → v < l.first → IsMarked l.flags.items v;
  each : (v : ℕ) → l.first ≤ v → v < l.index → (r : ℕ) × IsSame l.nodes (slice_index l.unknowns v) r × IsRoot l.nodes r × (IsMarked l.flags.items v ↔ IsHeld l.levels l.first l.marks r);
}
