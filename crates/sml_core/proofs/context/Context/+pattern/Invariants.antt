use Rattle.std.proofs.Common.{◌≡◌, Ok, map, take}
use Rattle.sml_tree.specs.PatternViews.{pat_of, pats_of, pat_field_of, pat_fields_of}
use Rattle.sml_objects.specs.Views.{type_of}
use Rattle.sml_types.specs.Rows.{AreRanked, fields_of}
use Rattle.sml_core.specs.Answered.{Row}
use Rattle.sml_core.specs.Patterns.{ReadsPatternFields, ReadsPatterns}
use Rattle.sml_core.proofs.context.Context.+pattern.Given as goal

abbrev pub invariant-pattern_fields-loop-field : goal.invariant-pattern_fields-loop-field
invariant-pattern_fields-loop-field l = record {
  ranked : AreRanked l.row.entries;
  reads : ReadsPatternFields (λ (r : Row). r) l.fn.self l.fn.variables (pat_fields_of (map pat_field_of (take l.field-index l.fields))) l.self l.variables (Ok (fields_of (λ t. type_of t.value) l.row.entries));
  kind : l.variables.is_recursive ≡ l.fn.variables.is_recursive;
}

abbrev pub invariant-pattern_tuple-loop-pat : goal.invariant-pattern_tuple-loop-pat
invariant-pattern_tuple-loop-pat l = record {
  reads : ReadsPatterns l.fn.self l.fn.variables (pats_of (map pat_of (take l.pat-index l.pats))) l.self l.variables (Ok l.types);
  kind : l.variables.is_recursive ≡ l.fn.variables.is_recursive;
}
