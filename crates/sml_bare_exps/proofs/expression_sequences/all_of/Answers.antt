use Rattle.std.proofs.Common.{◌≡◌, Err, map, reverse, subst, sym, rules, arith}
use Rattle.std.proofs.lemmas.Grind.{common_steps}
use Rattle.sml_tree.specs.Expressions.{apply}
use Rattle.sml_bare_exps.specs.ExpressionSequences.{exp_place, joined, all_of}
use Rattle.sml_bare_exps.specs.ExpressionViews.{GivesExp, low_exp_of}
use Rattle.sml_bare_exps.proofs.ExpressionHeights.{joined_fails}
use Rattle.sml_bare_exps.proofs.expression_sequences.all_of.Goals as goal

pub returns-in_err-exp : goal.returns-in_err-exp
returns-in_err-exp c =
    let whole = all_of (map low_exp_of (reverse c.args.stack.items)) in
    let f = low_exp_of c.in-Some-pop.function in
    let last = apply (exp_place f) f (low_exp_of c.loop-function.exp) in
    let rest = map low_exp_of (reverse c.pop-in-loop-function.new.self.items) in
    let made : whole ≡ joined last rest = first_of (search rules, grind (arith, common_steps)) in
    let given : GivesExp last (Err c.in_err-exp.field-0.0) = first_of (search rules, grind (arith, common_steps)) in
    let e : c.from_residual.result ≡ Err c.in_err-exp.field-0.0 = first_of (search rules, grind (arith, common_steps)) in
    subst (GivesExp whole) (sym e) (joined_fails whole last rest c.in_err-exp.field-0.0 made given)
