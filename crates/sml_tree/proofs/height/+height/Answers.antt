use Rattle.std.proofs.Common.{◌≡◌, ◌+◌, ap, sym, ◌∙◌, arith}
use Rattle.sml_tree.specs.Views.{brackets, exp_of}
use Rattle.sml_tree.specs.Height.{exp_height}
use Rattle.sml_tree.proofs.TreeViews.{exp_of-brackets}
use Rattle.sml_tree.proofs.Lists.{exps_on, brackets_height}
use Rattle.sml_tree.proofs.height.+height.Goals as goal

pub height_of_exp-returns-in-Brackets : goal.height_of_exp-returns-in-Brackets
height_of_exp-returns-in-Brackets t c =
    let n = c.in-Brackets.pairs in
    let e = exp_of c.deref-in-Brackets.result.now in
    let seen : exp_of c.args.exp.now ≡ brackets n e = ap exp_of c.in-Brackets.is ∙ exp_of-brackets c.in-Brackets.exp n ∙ ap (λ x. brackets n (exp_of x)) (sym c.deref-in-Brackets.ensures) in
    let high : exp_height (exp_of c.args.exp.now) ≡ exp_height e + n = ap exp_height seen ∙ brackets_height n e in
    omega (arith, c.height_of_exp.ensures, c.saturating_add-in-Brackets.ensures, high)

pub height_of_exps-loop-exp-preserved : goal.height_of_exps-loop-exp-preserved
height_of_exps-loop-exp-preserved t c =
    exps_on c.args.exps.now c.loop-exp.exp-index c.exp-item.result c.height_of_exp.result c.loop-exp.most c.max-most.result c.loop-exp-test.true c.exp-item.is c.height_of_exp.ensures c.loop-exp.invariant c.max-most.ensures
