use Rattle.std.proofs.Common.{ap, ◌∙◌}
use Rattle.sml_tree.specs.Expressions.{fn}
use Rattle.sml_tree.specs.ExpressionViews.{exp_of}
use Rattle.sml_derived.specs.Derived.{one_rule, pat_var}
use Rattle.sml_derived.proofs.Lists.{next_function}
use Rattle.sml_derived.proofs.Views.{exp_of-function}
use Rattle.sml_derived.proofs.functions.curried.Goals as goal

pub loop-made-preserved : goal.loop-made-preserved
loop-made-preserved c =
    next_function c.args.place c.args.count c.loop-made.made (exp_of c.loop-made.exp) _ _ c.loop-made-test.true
    (exp_of-function c.args.place c.in_ok-one_rule.field-0
    ∙ ap (fn c.args.place) (c.in_ok-one_rule.ensures
    ∙ ap (λ q. one_rule c.args.place q (exp_of c.loop-made.exp)) (c.in_ok-pat.ensures ∙ ap (pat_var c.args.place) c.in_ok-variable.ensures)))
    c.loop-made.invariant
