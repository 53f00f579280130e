-- The labels from here on are left.
use Rattle.std.proofs.Common.{◌≡◌, map, drop}
use Rattle.sml_tree.specs.Views.{ident_of}
use Rattle.sml_narrowing.specs.Plain.{Empty}
use Rattle.sml_narrowing.specs.Views.{row_on, plain_of}
use Rattle.sml_patterns.specs.CodeTasks.{rows_apart}
use Rattle.sml_patterns.proofs.apart.rows_apart.Given as goal

abbrev pub invariant-loop-index : goal.invariant-loop-index
invariant-loop-index l =
    let row = row_on (map ident_of l.labels) (map plain_of l.fields) Empty in
    let other = row_on (map ident_of l.others) (map plain_of l.other_fields) Empty in
    rows_apart row row other ≡ rows_apart (row_on (map ident_of (drop l.index l.labels)) (map plain_of (drop l.index l.fields)) Empty) row other
