-- What is left decides, since all before it is everything.
use Rattle.std.proofs.Common.{◌≡◌, map, drop}
use Rattle.sml_tree.specs.PatternViews.{pat_of, pats_of, pat_field_of, pat_fields_of}
use Rattle.sml_objects.specs.Initial.{Name}
use Rattle.sml_core_rules.specs.Objects.{Env}
use Rattle.sml_scopes.specs.Means.{Means}
use Rattle.sml_warnings.specs.Meanings.{meaning_in}
use Rattle.sml_warnings.specs.Named.{are_everything, are_fields_everything}
use Rattle.sml_warnings.proofs.matches.+everything.Given as goal

abbrev pub invariant-all_match_everything-loop-pat : goal.invariant-all_match_everything-loop-pat
invariant-all_match_everything-loop-pat l = record {
  left : (C : Env Name) → Means l.scopes C → are_everything (meaning_in C) (pats_of (map pat_of l.pats)) ≡ are_everything (meaning_in C) (pats_of (map pat_of (drop l.pat-index l.pats)));
}

abbrev pub invariant-fields_match_everything-loop-field : goal.invariant-fields_match_everything-loop-field
invariant-fields_match_everything-loop-field l = record {
  left : (C : Env Name) → Means l.scopes C → are_fields_everything (meaning_in C) (pat_fields_of (map pat_field_of l.fields)) ≡ are_fields_everything (meaning_in C) (pat_fields_of (map pat_field_of (drop l.field-index l.fields)));
}
