use Rattle.std.proofs.Common.{map, ap, sym, Bool, ◌∙◌}
use Rattle.sml_tree.specs.PatternViews.{pat_of, pats_of, pat_field_of, pat_fields_of}
use Rattle.sml_tree.specs.declared.patterns.PatField.{out-PatField}
use Rattle.sml_warnings.specs.Meanings.{meaning_in}
use Rattle.sml_warnings.specs.Named.{is_everything, are_everything, are_fields_everything}
use Rattle.sml_warnings.specs.Lost.{IsLost, StandsIn, StandsInAll, StandsInFields}
use Rattle.sml_warnings.proofs.PatViews.{pat_of-row, pat_of-tuple}
use Rattle.sml_warnings.proofs.Telling.{told}
use Rattle.sml_warnings.proofs.Losing.{fault_on, fault_through, in_row, in_tuple, pats_at, fields_at}
use Rattle.sml_warnings.proofs.Stepping.{pat_more, pats_end, field_more, fields_end}
use Rattle.sml_warnings.proofs.matches.+everything.Goals as goal

pub matches_everything-returns-in-Row-clause-answer : goal.matches_everything-returns-in-Row-clause-answer
unfolding is_everything
matches_everything-returns-in-Row-clause-answer t c =
    told c.args.scopes.now (λ C. is_everything (meaning_in C) (pat_of c.args.pat.now)) (λ C. are_fields_everything (meaning_in C) (pat_fields_of (map pat_field_of c.deref.result.now)))
    c.fields_match_everything.result
    (λ C. ap (λ fs. are_fields_everything (meaning_in C) (pat_fields_of (map pat_field_of fs))) c.deref.ensures.value ∙ sym (ap (λ x. is_everything (meaning_in C) (pat_of x)) c.in-Row.is ∙ ap (is_everything (meaning_in C)) (pat_of-row c.in-Row.field-0 c.in-Row.fields c.in-Row.field-2)))
    c.fields_match_everything.ensures.answer

pub matches_everything-returns-in-Row-clause-fault : goal.matches_everything-returns-in-Row-clause-fault
matches_everything-returns-in-Row-clause-fault t c = λ C m.
    fault_on Bool c.fields_match_everything.result (λ g. StandsInFields (IsLost C g) (pat_fields_of (map pat_field_of c.deref.result.now))) (λ g. StandsIn (IsLost C g) (pat_of c.args.pat.now))
    (λ g. in_row (IsLost C g) c.args.pat.now c.in-Row.field-0 c.in-Row.fields c.in-Row.field-2 c.deref.result.now c.in-Row.is c.deref.ensures.value) (c.fields_match_everything.ensures.fault C m)

pub matches_everything-returns-in-Tuple-clause-answer : goal.matches_everything-returns-in-Tuple-clause-answer
unfolding is_everything
matches_everything-returns-in-Tuple-clause-answer t c =
    told c.args.scopes.now (λ C. is_everything (meaning_in C) (pat_of c.args.pat.now)) (λ C. are_everything (meaning_in C) (pats_of (map pat_of c.deref-in-Tuple.result.now)))
    c.all_match_everything.result
    (λ C. ap (λ ps. are_everything (meaning_in C) (pats_of (map pat_of ps))) c.deref-in-Tuple.ensures.value ∙ sym (ap (λ x. is_everything (meaning_in C) (pat_of x)) c.in-Tuple.is ∙ ap (is_everything (meaning_in C)) (pat_of-tuple c.in-Tuple.field-0 c.in-Tuple.pats)))
    c.all_match_everything.ensures.answer

pub matches_everything-returns-in-Tuple-clause-fault : goal.matches_everything-returns-in-Tuple-clause-fault
matches_everything-returns-in-Tuple-clause-fault t c = λ C m.
    fault_on Bool c.all_match_everything.result (λ g. StandsInAll (IsLost C g) (pats_of (map pat_of c.deref-in-Tuple.result.now))) (λ g. StandsIn (IsLost C g) (pat_of c.args.pat.now))
    (λ g. in_tuple (IsLost C g) c.args.pat.now c.in-Tuple.field-0 c.in-Tuple.pats c.deref-in-Tuple.result.now c.in-Tuple.is c.deref-in-Tuple.ensures.value) (c.all_match_everything.ensures.fault C m)

pub all_match_everything-loop-pat-preserved : goal.all_match_everything-loop-pat-preserved
all_match_everything-loop-pat-preserved t c = record {
  left = λ C m. pat_more (meaning_in C) c.args.pats.now c.loop-pat.pat-index c.pat-item.result c.loop-pat-test.true c.pat-item.is (sym (c.in_ok-matches_everything.ensures.answer C m) ∙ c.if-not-branch.false) (c.loop-pat.invariant.left C m);
}

pub all_match_everything-returns-clause-answer : goal.all_match_everything-returns-clause-answer
all_match_everything-returns-clause-answer t c = λ C m.
    pats_end (meaning_in C) c.args.pats.now c.loop-pat.pat-index c.loop-pat-test.false (c.loop-pat.invariant.left C m)

pub all_match_everything-returns-in_err-matches_everything-clause-fault : goal.all_match_everything-returns-in_err-matches_everything-clause-fault
all_match_everything-returns-in_err-matches_everything-clause-fault t c = λ C m.
    fault_through Bool Bool c.from_residual.result c.in_err-matches_everything.field-0.0 (λ g. StandsIn (IsLost C g) (pat_of c.pat-item.result)) (λ g. StandsInAll (IsLost C g) (pats_of (map pat_of c.args.pats.now))) c.from_residual.ensures.1
    (λ g. pats_at (IsLost C g) c.args.pats.now c.loop-pat.pat-index c.pat-item.result c.loop-pat-test.true c.pat-item.is) (c.in_err-matches_everything.ensures.fault C m)

pub fields_match_everything-loop-field-preserved : goal.fields_match_everything-loop-field-preserved
fields_match_everything-loop-field-preserved t c = record {
  left = λ C m. field_more (meaning_in C) c.args.fields.now c.loop-field.field-index c.field-item.result c.loop-field-test.true c.field-item.is (sym (c.in_ok-matches_everything.ensures.answer C m) ∙ c.if-not-branch.false) (c.loop-field.invariant.left C m);
}

pub fields_match_everything-returns-clause-answer : goal.fields_match_everything-returns-clause-answer
fields_match_everything-returns-clause-answer t c = λ C m.
    fields_end (meaning_in C) c.args.fields.now c.loop-field.field-index c.loop-field-test.false (c.loop-field.invariant.left C m)

pub fields_match_everything-returns-in_err-matches_everything-clause-fault : goal.fields_match_everything-returns-in_err-matches_everything-clause-fault
fields_match_everything-returns-in_err-matches_everything-clause-fault t c = λ C m.
    fault_through Bool Bool c.from_residual.result c.in_err-matches_everything.field-0.0 (λ g. StandsIn (IsLost C g) (pat_of (out-PatField c.field-item.result).pat)) (λ g. StandsInFields (IsLost C g) (pat_fields_of (map pat_field_of c.args.fields.now))) c.from_residual.ensures.1
    (λ g. fields_at (IsLost C g) c.args.fields.now c.loop-field.field-index c.field-item.result c.loop-field-test.true c.field-item.is) (c.in_err-matches_everything.ensures.fault C m)
