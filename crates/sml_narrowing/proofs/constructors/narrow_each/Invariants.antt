-- There are so many empty groups; then each has the rows so far that cover its constructor.
use Rattle.std.proofs.Common.{◌≡◌, ◌++◌, ◌<◌, ℕ, [], length, drop}
use Rattle.sml_narrowing.specs.CodeTasks.{lines, group_at}
use Rattle.sml_narrowing.specs.CodeMatrix.{AtConstructor, narrow_all}
use Rattle.sml_narrowing.proofs.constructors.narrow_each.Given as goal

abbrev pub invariant-loop-number : goal.invariant-loop-number
invariant-loop-number l = record {
  len : length l.groups.items ≡ l._number;
  empty : (k : ℕ) → group_at l.groups.items k ≡ [];
}

abbrev pub invariant-loop-row : goal.invariant-loop-row
invariant-loop-row l = record {
  len : length l.groups.items ≡ l.count;
  rows : (k : ℕ) → k < l.count → narrow_all (AtConstructor k) (lines l.rows) ≡ group_at l.groups.items k ++ narrow_all (AtConstructor k) (lines (drop l.row-index l.rows));
}
