use Rattle.std.proofs.Common.{◌≡◌, ◌+◌, map, drop, length}
use Rattle.sml_tree.specs.Views.{ident_of}
use Rattle.sml_tree.specs.PatternViews.{pat_of, pats_of, pat_field_of, pat_fields_of}
use Rattle.sml_narrowing.specs.Plain as P
use Rattle.sml_patterns.specs.Stands.{TupleStandsFor, FieldsStandFor}
use Rattle.sml_narrowing.specs.Views.{row_on, plain_of}
use Rattle.sml_patterns.specs.Views.{meanings}
use Rattle.sml_patterns.proofs.plain.+plain.Given as goal

abbrev pub invariant-plain_row-loop-field : goal.invariant-plain_row-loop-field
invariant-plain_row-loop-field l =
    (length l.labels.items ≡ length l.patterns.items) × ((r : P.Row) → FieldsStandFor (meanings l.names) (pat_fields_of (map pat_field_of l.fields)) r → (more : P.Row) × FieldsStandFor (meanings l.names) (pat_fields_of (map pat_field_of (drop l.field-index l.fields))) more × (row_on (map ident_of l.labels.items) (map plain_of l.patterns.items) more ≡ r))

abbrev pub invariant-plain_tuple-loop-index : goal.invariant-plain_tuple-loop-index
invariant-plain_tuple-loop-index l =
    (length l.labels.items ≡ length l.fields.items) × ((r : P.Row) → TupleStandsFor (meanings l.names) 1 (pats_of (map pat_of l.pats)) r → (more : P.Row) × TupleStandsFor (meanings l.names) (l.index + 1) (pats_of (map pat_of (drop l.index l.pats))) more × (row_on (map ident_of l.labels.items) (map plain_of l.fields.items) more ≡ r))
