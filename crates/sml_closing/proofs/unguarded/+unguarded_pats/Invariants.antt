-- What is left to gather, after what was.
use Rattle.std.proofs.Common.{◌≡◌, map, drop}
use Rattle.sml_tree.specs.PatternViews.{pat_of, pats_of, pat_field_of, pat_fields_of}
use Rattle.sml_core_rules.specs.Closing.{pats_variables, pat_field_variables}
use Rattle.sml_closing.specs.Gathered.{ids_of, with_all}
use Rattle.sml_closing.proofs.unguarded.+unguarded_pats.Given as goal

abbrev pub invariant-in_pats-loop-pat : goal.invariant-in_pats-loop-pat
invariant-in_pats-loop-pat l = record {
  left : with_all (ids_of l.found.keys) (pats_variables (pats_of (map pat_of (drop l.pat-index l.pats)))) ≡ with_all (ids_of l.fn.found.keys) (pats_variables (pats_of (map pat_of (l.pats))));
}

abbrev pub invariant-in_pat_fields-loop-field : goal.invariant-in_pat_fields-loop-field
invariant-in_pat_fields-loop-field l = record {
  left : with_all (ids_of l.found.keys) (pat_field_variables (pat_fields_of (map pat_field_of (drop l.field-index l.fields)))) ≡ with_all (ids_of l.fn.found.keys) (pat_field_variables (pat_fields_of (map pat_field_of (l.fields))));
}
