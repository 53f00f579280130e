-- What is left to note, after what was.
use Rattle.std.proofs.Common.{◌≡◌, map, drop}
use Rattle.sml_tree.specs.Trees.{LongId}
use Rattle.sml_tree.specs.PatternViews.{pat_of, pats_of, pat_field_of, pat_fields_of}
use Rattle.sml_objects.specs.Initial.{Name}
use Rattle.sml_core_rules.specs.Objects.{Env}
use Rattle.sml_patterns.specs.Views.{meanings}
use Rattle.sml_scopes.specs.Means.{Means}
use Rattle.sml_warnings.specs.Meanings.{meaning_in}
use Rattle.sml_warnings.specs.Named.{after_pats, after_fields}
use Rattle.sml_warnings.proofs.matches.+meanings.Given as goal

abbrev pub invariant-all_name_meanings-loop-pat : goal.invariant-all_name_meanings-loop-pat
invariant-all_name_meanings-loop-pat l = record {
  left : (C : Env Name) → Means l.scopes C → (x : LongId) → after_pats (meaning_in C) (pats_of (map pat_of (drop l.pat-index l.pats))) x (meanings l.names x) ≡ after_pats (meaning_in C) (pats_of (map pat_of l.pats)) x (meanings l.fn.names x);
}

abbrev pub invariant-fields_name_meanings-loop-field : goal.invariant-fields_name_meanings-loop-field
invariant-fields_name_meanings-loop-field l = record {
  left : (C : Env Name) → Means l.scopes C → (x : LongId) → after_fields (meaning_in C) (pat_fields_of (map pat_field_of (drop l.field-index l.fields))) x (meanings l.names x) ≡ after_fields (meaning_in C) (pat_fields_of (map pat_field_of l.fields)) x (meanings l.fn.names x);
}
