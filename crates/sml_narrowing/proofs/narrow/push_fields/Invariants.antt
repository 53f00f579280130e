use Rattle.std.proofs.Common.{◌≡◌, ◌++◌, map, take}
use Rattle.sml_tree.specs.Views.{ident_of}
use Rattle.sml_narrowing.specs.Plain.{Empty}
use Rattle.sml_narrowing.specs.CodeMatrix.{field_in}
use Rattle.sml_narrowing.specs.Views.{row_on, plain_of}
use Rattle.sml_narrowing.specs.CodeTasks.{line, labels_of}
use Rattle.sml_narrowing.proofs.narrow.push_fields.Given as goal

abbrev pub invariant-loop-label : goal.invariant-loop-label
invariant-loop-label l = line l.row.items ≡ map (field_in (row_on (map ident_of l.own) (map plain_of l.fields) Empty)) (labels_of (take l.label-index l.labels)) ++ line l.fn.row.items
