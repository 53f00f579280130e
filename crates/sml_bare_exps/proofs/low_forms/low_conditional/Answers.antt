use Rattle.std.proofs.Common.{◌≡◌, ◌+◌, ap, arith}
use Rattle.sml_tree.specs.Heights.{exp_height}
use Rattle.sml_tree.specs.ExpressionViews.{exp_of}
use Rattle.sml_bare_exps.specs.ExpressionViews.{low_exp_of}
use Rattle.sml_phrases.proofs.Failures.{fails}
use Rattle.sml_bare_exps.proofs.low_forms.low_conditional.Goals as goal

pub invariant_of-result-clause-measured : goal.invariant_of-result-clause-measured
invariant_of-result-clause-measured c =
    let g = ap exp_height c.in_ok-tree.ensures in
    let w : exp_height (exp_of c.in_ok-tree.tree) ≡ c.in_ok-height.height = omega (arith, g, c.args.test.measured, c.args.yes.measured, c.args.no.measured, c.in_ok-height.ensures.sum) in w

pub returns-in_err-height : goal.returns-in_err-height
returns-in_err-height c =
    fails (λ h. h) (λ h. h) low_exp_of exp_height (c.max-2.result + 1) _ c.in_err-height.field-0.0 c.from_residual.result c.in_err-height.ensures.sum c.from_residual.ensures.1
    (omega (arith, c.args.test.measured, c.args.yes.measured, c.args.no.measured, c.max.ensures, c.max-most.ensures, c.max-2.ensures))
