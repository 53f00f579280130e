use Rattle.std.proofs.Common.{map, ap, sym, ◌∙◌}
use Rattle.sml_tree.specs.PatternViews.{pat_of, pats_of, pat_field_of, pat_fields_of}
use Rattle.sml_tree.specs.declared.patterns.PatField.{out-PatField}
use Rattle.sml_patterns.specs.Views.{meanings}
use Rattle.sml_warnings.specs.Meanings.{meaning_in}
use Rattle.sml_warnings.specs.Named.{after_pat, after_pats, after_fields}
use Rattle.sml_warnings.specs.Lost.{IsLost, StandsIn, StandsInAll, StandsInFields}
use Rattle.sml_warnings.proofs.PatViews.{pat_of-row, pat_of-tuple}
use Rattle.sml_warnings.proofs.Telling.{told_names}
use Rattle.sml_warnings.proofs.Losing.{fault_on, fault_through, in_row, in_tuple, pats_at, fields_at}
use Rattle.sml_warnings.proofs.Stepping.{noted_pat, noted_pats, noted_field, noted_fields}
use Rattle.sml_warnings.proofs.matches.+meanings.Goals as goal

pub name_meanings-returns-in-Row-clause-names : goal.name_meanings-returns-in-Row-clause-names
unfolding after_pat
name_meanings-returns-in-Row-clause-names t c =
    told_names c.args.scopes.now (λ C x. after_pat (meaning_in C) (pat_of c.args.pat.now) x (meanings c.args.names.now x)) (λ C x. after_fields (meaning_in C) (pat_fields_of (map pat_field_of c.deref.result.now)) x (meanings c.args.names.now x))
    (meanings c.fields_name_meanings.new.names) c.fields_name_meanings.result
    (λ C x. ap (λ fs. after_fields (meaning_in C) (pat_fields_of (map pat_field_of fs)) x (meanings c.args.names.now x)) c.deref.ensures.value
    ∙ sym (ap (λ q. after_pat (meaning_in C) (pat_of q) x (meanings c.args.names.now x)) c.in-Row.is ∙ ap (λ q. after_pat (meaning_in C) q x (meanings c.args.names.now x)) (pat_of-row c.in-Row.field-0 c.in-Row.fields c.in-Row.field-2)))
    c.fields_name_meanings.ensures.names

pub name_meanings-returns-in-Row-clause-fault : goal.name_meanings-returns-in-Row-clause-fault
name_meanings-returns-in-Row-clause-fault t c = λ C m.
    fault_on (Unit {0}) c.fields_name_meanings.result (λ g. StandsInFields (IsLost C g) (pat_fields_of (map pat_field_of c.deref.result.now))) (λ g. StandsIn (IsLost C g) (pat_of c.args.pat.now))
    (λ g. in_row (IsLost C g) c.args.pat.now c.in-Row.field-0 c.in-Row.fields c.in-Row.field-2 c.deref.result.now c.in-Row.is c.deref.ensures.value) (c.fields_name_meanings.ensures.fault C m)

pub name_meanings-returns-in-Tuple-clause-names : goal.name_meanings-returns-in-Tuple-clause-names
unfolding after_pat
name_meanings-returns-in-Tuple-clause-names t c =
    told_names c.args.scopes.now (λ C x. after_pat (meaning_in C) (pat_of c.args.pat.now) x (meanings c.args.names.now x)) (λ C x. after_pats (meaning_in C) (pats_of (map pat_of c.deref-in-Tuple.result.now)) x (meanings c.args.names.now x))
    (meanings c.all_name_meanings.new.names) c.all_name_meanings.result
    (λ C x. ap (λ ps. after_pats (meaning_in C) (pats_of (map pat_of ps)) x (meanings c.args.names.now x)) c.deref-in-Tuple.ensures.value
    ∙ sym (ap (λ q. after_pat (meaning_in C) (pat_of q) x (meanings c.args.names.now x)) c.in-Tuple.is ∙ ap (λ q. after_pat (meaning_in C) q x (meanings c.args.names.now x)) (pat_of-tuple c.in-Tuple.field-0 c.in-Tuple.pats)))
    c.all_name_meanings.ensures.names

pub name_meanings-returns-in-Tuple-clause-fault : goal.name_meanings-returns-in-Tuple-clause-fault
name_meanings-returns-in-Tuple-clause-fault t c = λ C m.
    fault_on (Unit {0}) c.all_name_meanings.result (λ g. StandsInAll (IsLost C g) (pats_of (map pat_of c.deref-in-Tuple.result.now))) (λ g. StandsIn (IsLost C g) (pat_of c.args.pat.now))
    (λ g. in_tuple (IsLost C g) c.args.pat.now c.in-Tuple.field-0 c.in-Tuple.pats c.deref-in-Tuple.result.now c.in-Tuple.is c.deref-in-Tuple.ensures.value) (c.all_name_meanings.ensures.fault C m)

pub all_name_meanings-loop-pat-preserved : goal.all_name_meanings-loop-pat-preserved
all_name_meanings-loop-pat-preserved t c = record {
  left = λ C m x. noted_pat (meaning_in C) x c.args.pats.now c.loop-pat.pat-index c.pat-item.result (meanings c.loop-pat.names x) (meanings c.name_meanings.new.names x) (after_pats (meaning_in C) (pats_of (map pat_of c.args.pats.now)) x (meanings c.args.names.now x)) c.loop-pat-test.true c.pat-item.is (c.in_ok-name_meanings.ensures.names C m x) (c.loop-pat.invariant.left C m x);
}

pub all_name_meanings-returns-clause-names : goal.all_name_meanings-returns-clause-names
all_name_meanings-returns-clause-names t c = λ C m x.
    noted_pats (meaning_in C) x c.args.pats.now c.loop-pat.pat-index (meanings c.loop-pat.names x) (after_pats (meaning_in C) (pats_of (map pat_of c.args.pats.now)) x (meanings c.args.names.now x)) c.loop-pat-test.false (c.loop-pat.invariant.left C m x)

pub all_name_meanings-returns-in_err-name_meanings-clause-fault : goal.all_name_meanings-returns-in_err-name_meanings-clause-fault
all_name_meanings-returns-in_err-name_meanings-clause-fault t c = λ C m.
    fault_through (Unit {0}) (Unit {0}) c.from_residual.result c.in_err-name_meanings.field-0.0 (λ g. StandsIn (IsLost C g) (pat_of c.pat-item.result)) (λ g. StandsInAll (IsLost C g) (pats_of (map pat_of c.args.pats.now))) c.from_residual.ensures.1
    (λ g. pats_at (IsLost C g) c.args.pats.now c.loop-pat.pat-index c.pat-item.result c.loop-pat-test.true c.pat-item.is) (c.in_err-name_meanings.ensures.fault C m)

pub fields_name_meanings-loop-field-preserved : goal.fields_name_meanings-loop-field-preserved
fields_name_meanings-loop-field-preserved t c = record {
  left = λ C m x. noted_field (meaning_in C) x c.args.fields.now c.loop-field.field-index c.field-item.result (meanings c.loop-field.names x) (meanings c.name_meanings.new.names x) (after_fields (meaning_in C) (pat_fields_of (map pat_field_of c.args.fields.now)) x (meanings c.args.names.now x)) c.loop-field-test.true c.field-item.is (c.in_ok-name_meanings.ensures.names C m x) (c.loop-field.invariant.left C m x);
}

pub fields_name_meanings-returns-clause-names : goal.fields_name_meanings-returns-clause-names
fields_name_meanings-returns-clause-names t c = λ C m x.
    noted_fields (meaning_in C) x c.args.fields.now c.loop-field.field-index (meanings c.loop-field.names x) (after_fields (meaning_in C) (pat_fields_of (map pat_field_of c.args.fields.now)) x (meanings c.args.names.now x)) c.loop-field-test.false (c.loop-field.invariant.left C m x)

pub fields_name_meanings-returns-in_err-name_meanings-clause-fault : goal.fields_name_meanings-returns-in_err-name_meanings-clause-fault
fields_name_meanings-returns-in_err-name_meanings-clause-fault t c = λ C m.
    fault_through (Unit {0}) (Unit {0}) c.from_residual.result c.in_err-name_meanings.field-0.0 (λ g. StandsIn (IsLost C g) (pat_of (out-PatField c.field-item.result).pat)) (λ g. StandsInFields (IsLost C g) (pat_fields_of (map pat_field_of c.args.fields.now))) c.from_residual.ensures.1
    (λ g. fields_at (IsLost C g) c.args.fields.now c.loop-field.field-index c.field-item.result c.loop-field-test.true c.field-item.is) (c.in_err-name_meanings.ensures.fault C m)
