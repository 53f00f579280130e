-- The tasks of the constructors after these are there, and the rows of these are still to come.
use Rattle.std.proofs.Common.{◌≡◌, ◌++◌, ◌<◌, ℕ, length}
use Rattle.sml_narrowing.specs.CodeTasks.{line, lines, group_at}
use Rattle.sml_patterns.specs.CodeTasks.{problems}
use Rattle.sml_narrowing.specs.CodeMatrix.{AtConstructor, narrow_all, below}
use Rattle.sml_patterns.specs.CodeMatrix.{narrowed}
use Rattle.sml_patterns.proofs.search.push_below.Given as goal

abbrev pub invariant-loop-rows : goal.invariant-loop-rows
invariant-loop-rows l = record {
  tasks : problems l.fn.tasks.items ++ narrowed (lines l.fn.rows) (line l.question) (below l.count) ≡ problems l.tasks.items ++ narrowed (lines l.fn.rows) (line l.question) (below (length l.groups.items));
  groups : (k : ℕ) → k < length l.groups.items → group_at l.groups.items k ≡ narrow_all (AtConstructor k) (lines l.fn.rows);
}

abbrev pub decreases-loop-rows : goal.decreases-loop-rows
decreases-loop-rows l = length l.groups.items
