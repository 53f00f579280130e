use Rattle.std.proofs.Common.{ap, sym, ◌∙◌}
use Rattle.sml_tree.specs.ExpressionViews.{exp_of}
use Rattle.sml_core_rules.specs.Closing.{constructs_exp}
use Rattle.sml_closing.proofs.Telling.{told}
use Rattle.sml_tree.proofs.ExpViews.{exp_of-bracket, exp_of-typed}
use Rattle.sml_closing.proofs.expansive.+constructor_expression.Goals as goal

pub returns-in-Bracket : goal.returns-in-Bracket
returns-in-Bracket g t c =
    told (g.S.Statuses.says c.args.statuses.now) (λ C. constructs_exp C (exp_of c.args.exp.now)) (λ C. constructs_exp C (exp_of c.deref.result.now))
    c.constructs_expression.result
    (λ C h. ap (λ x. constructs_exp C (exp_of x)) c.deref.ensures ∙ sym (ap (λ x. constructs_exp C (exp_of x)) c.in-Bracket.is ∙ ap (constructs_exp C) (exp_of-bracket c.in-Bracket.field-0 c.in-Bracket.exp)))
    c.constructs_expression.ensures

pub returns-in-Typed : goal.returns-in-Typed
returns-in-Typed g t c =
    told (g.S.Statuses.says c.args.statuses.now) (λ C. constructs_exp C (exp_of c.args.exp.now)) (λ C. constructs_exp C (exp_of c.deref-in-Typed.result.now))
    c.constructs_expression-in-Typed.result
    (λ C h. ap (λ x. constructs_exp C (exp_of x)) c.deref-in-Typed.ensures ∙ sym (ap (λ x. constructs_exp C (exp_of x)) c.in-Typed.is ∙ ap (constructs_exp C) (exp_of-typed c.in-Typed.field-0 c.in-Typed.exp c.in-Typed.field-2)))
    c.constructs_expression-in-Typed.ensures
