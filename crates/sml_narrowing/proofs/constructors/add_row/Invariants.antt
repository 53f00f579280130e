-- The row was added to the groups before this one.
use Rattle.std.proofs.Common.{◌≡◌, ◌++◌, ◌<◌, ◌≤◌, ℕ, [], length}
use Rattle.sml_narrowing.specs.CodeTasks.{line, group_at}
use Rattle.sml_narrowing.specs.CodeMatrix.{AtConstructor, kept, narrow}
use Rattle.sml_narrowing.proofs.constructors.add_row.Given as goal

abbrev pub invariant-loop-index : goal.invariant-loop-index
invariant-loop-index l = record {
  len : length l.groups.items ≡ l.index-end;
  added : (k : ℕ) → k < l.index → group_at l.groups.items k ≡ group_at l.initial.groups.items k ++ kept (narrow (AtConstructor k) (line l.row)) [];
  left : (k : ℕ) → l.index ≤ k → group_at l.groups.items k ≡ group_at l.initial.groups.items k;
}
