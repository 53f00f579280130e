use Rattle.std.proofs.Common.{◌≡◌, ℕ, drop}
use Rattle.std.specs.Prelude.{◌==◌, ◌||◌}
use Rattle.indexmap.specs.IndexSet.{contains}
use Rattle.sml_narrowing.specs.CodeTasks.{lines}
use Rattle.sml_narrowing.specs.CodeMatrix.{has}
use Rattle.sml_narrowing.proofs.constructors.numbers.Given as goal

abbrev pub invariant-loop-row : goal.invariant-loop-row
invariant-loop-row l = (k : ℕ) → has k (lines l.rows) ≡ (contains ◌==◌ l.numbers k || has k (lines (drop l.row-index l.rows)))
