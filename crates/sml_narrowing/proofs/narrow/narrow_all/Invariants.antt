use Rattle.std.proofs.Common.{◌≡◌, ◌++◌, drop}
use Rattle.sml_narrowing.specs.CodeTasks.{lines, head_of}
use Rattle.sml_narrowing.specs.CodeMatrix.{narrow_all}
use Rattle.sml_narrowing.proofs.narrow.narrow_all.Given as goal

abbrev pub invariant-loop-row : goal.invariant-loop-row
invariant-loop-row l = narrow_all (head_of l.head) (lines l.rows) ≡ lines l.all.items ++ narrow_all (head_of l.head) (lines (drop l.row-index l.rows))
