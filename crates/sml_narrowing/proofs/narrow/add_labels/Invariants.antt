use Rattle.std.proofs.Common.{◌≡◌, map, drop}
use Rattle.sml_tree.specs.Views.{ident_of}
use Rattle.sml_narrowing.specs.Plain.{Empty}
use Rattle.sml_narrowing.specs.CodeMatrix.{with_row}
use Rattle.sml_narrowing.specs.Views.{row_on, plain_of}
use Rattle.sml_narrowing.specs.CodeTasks.{labels_of}
use Rattle.sml_narrowing.proofs.narrow.add_labels.Given as goal

abbrev pub invariant-loop-index : goal.invariant-loop-index
invariant-loop-index l = with_row (labels_of l.fn.labels.items) (row_on (map ident_of l.own) (map plain_of l.fields) Empty) ≡ with_row (labels_of l.labels.items) (row_on (map ident_of (drop l.index l.own)) (map plain_of (drop l.index l.fields)) Empty)
