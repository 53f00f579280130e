use Rattle.std.proofs.Common.{◌≡◌, drop}
use Rattle.sml_narrowing.specs.CodeTasks.{lines}
use Rattle.sml_narrowing.specs.CodeMatrix.{first_kind}
use Rattle.sml_narrowing.proofs.narrow.first_kind.Given as goal

abbrev pub invariant-loop-row : goal.invariant-loop-row
invariant-loop-row l = first_kind (lines l.rows) ≡ first_kind (lines (drop l.row-index l.rows))
