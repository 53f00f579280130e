use Rattle.std.proofs.Common.{◌≡◌, drop}
use Rattle.sml_narrowing.specs.CodeMatrix.{column_labels, with_column}
use Rattle.sml_narrowing.specs.CodeTasks.{lines, plain_at, labels_of}
use Rattle.sml_narrowing.proofs.narrow.column_labels.Given as goal

abbrev pub invariant-loop-row : goal.invariant-loop-row
invariant-loop-row l = column_labels (plain_at l.fn.pattern) (lines l.rows) ≡ with_column (labels_of l.labels.items) (lines (drop l.row-index l.rows))
