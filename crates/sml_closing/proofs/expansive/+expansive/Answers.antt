use Rattle.std.proofs.Common.{map, ap, sym, not, ◌||◌, ◌∙◌}
use Rattle.sml_tree.specs.ExpressionViews.{exp_of, exps_of, field_of, fields_of}
use Rattle.sml_core_rules.specs.Closing.{constructs_exp, is_expansive, is_any_expansive, is_any_field_expansive}
use Rattle.sml_closing.proofs.Telling.{told}
use Rattle.sml_tree.proofs.ExpViews.{exp_of-row, exp_of-tuple, exp_of-application}
use Rattle.sml_closing.proofs.expansive.+expansive.Goals as goal

pub is_expansive-returns-in-Row : goal.is_expansive-returns-in-Row
unfolding is_expansive
is_expansive-returns-in-Row g t c =
    told (g.S.Statuses.says c.args.statuses.now) (λ C. is_expansive C (exp_of c.args.exp.now)) (λ C. is_any_field_expansive C (fields_of (map field_of c.deref.result.now)))
    c.is_any_field_expansive.result
    (λ C h. ap (λ fs. is_any_field_expansive C (fields_of (map field_of fs))) c.deref.ensures.value ∙ sym (ap (λ x. is_expansive C (exp_of x)) c.in-Row.is ∙ ap (is_expansive C) (exp_of-row c.in-Row.field-0 c.in-Row.fields)))
    c.is_any_field_expansive.ensures

pub is_expansive-returns-in-Tuple : goal.is_expansive-returns-in-Tuple
unfolding is_expansive
is_expansive-returns-in-Tuple g t c =
    told (g.S.Statuses.says c.args.statuses.now) (λ C. is_expansive C (exp_of c.args.exp.now)) (λ C. is_any_expansive C (exps_of (map exp_of c.deref-in-Tuple.result.now)))
    c.is_any_expansive.result
    (λ C h. ap (λ es. is_any_expansive C (exps_of (map exp_of es))) c.deref-in-Tuple.ensures.value ∙ sym (ap (λ x. is_expansive C (exp_of x)) c.in-Tuple.is ∙ ap (is_expansive C) (exp_of-tuple c.in-Tuple.field-0 c.in-Tuple.exps)))
    c.is_any_expansive.ensures

pub is_expansive-returns-then-branch : goal.is_expansive-returns-then-branch
unfolding is_expansive
is_expansive-returns-then-branch g t c =
    told (g.S.Statuses.says c.args.statuses.now) (λ C. is_expansive C (exp_of c.args.exp.now)) (λ C. is_expansive C (exp_of c.deref-then-branch.result.now))
    c.is_expansive-then-branch.result
    (λ C h. ap (λ x. is_expansive C (exp_of x)) c.deref-then-branch.ensures
    ∙ sym (ap (λ x. is_expansive C (exp_of x)) c.in-Application.is
    ∙ ap (is_expansive C) (exp_of-application c.in-Application.field-0 c.in-Application.function c.in-Application.argument)
    ∙ ap (λ b. not b || is_expansive C (exp_of c.in-Application.argument.value))
    (sym (c.in_ok-constructs_expression-in-Application.ensures C h ∙ ap (λ x. constructs_exp C (exp_of x)) c.deref-in-Application.ensures) ∙ c.if-branch.true)))
    c.is_expansive-then-branch.ensures
