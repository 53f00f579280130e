use Rattle.std.proofs.Common.{◌≡◌}
use Rattle.sml_narrowing.specs.CodeTasks.{lines}
use Rattle.sml_narrowing.specs.CodeMatrix.{has_below}
use Rattle.sml_narrowing.proofs.constructors.has_below.Given as goal

abbrev pub invariant-loop-left : goal.invariant-loop-left
invariant-loop-left l = has_below l.count (lines l.rows) ≡ has_below l.left (lines l.rows)

abbrev pub decreases-loop-left : goal.decreases-loop-left
decreases-loop-left l = l.left
