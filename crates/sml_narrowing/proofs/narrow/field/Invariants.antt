use Rattle.std.proofs.Common.{◌≡◌, map, drop}
use Rattle.sml_tree.specs.Views.{ident_of}
use Rattle.sml_narrowing.specs.Plain.{Empty, field}
use Rattle.sml_narrowing.specs.Views.{row_on, plain_of}
use Rattle.sml_narrowing.proofs.narrow.field.Given as goal

abbrev pub invariant-loop-index : goal.invariant-loop-index
invariant-loop-index l = field (ident_of l.label) (row_on (map ident_of l.labels) (map plain_of l.fields) Empty) ≡ field (ident_of l.label) (row_on (map ident_of (drop l.index l.labels)) (map plain_of (drop l.index l.fields)) Empty)
