use Rattle.std.proofs.Common.{◌≡◌, Err, map, reverse, subst, sym, ap, rules, arith}
use Rattle.std.proofs.lemmas.Grind.{common_steps}
use Rattle.sml_bare_exps.specs.ExpressionSequences.{exp_of_steps, starting}
use Rattle.sml_bare_exps.specs.ExpressionViews.{GivesExp, low_exp_of, building_of}
use Rattle.sml_bare_exps.proofs.ExpressionHeights.{goes_on, steps_fail}
use Rattle.sml_bare_exps.proofs.expression_sequences.exp_of_steps.Goals as goal

pub returns-in_err-advance : goal.returns-in_err-advance
returns-in_err-advance c =
    let whole = exp_of_steps c.args.steps.now (starting (map low_exp_of c.args.atoms.items)) in
    let e : c.from_residual.result ≡ Err c.in_err-advance.field-0.0 = first_of (search rules, grind (arith, common_steps)) in
    subst (GivesExp whole) (sym e)
    (steps_fail (Unit {0}) whole c.args.steps.now c.loop-step.step-index _ (building_of c.loop-step.building) (building_of c.advance.new.self).stack c.in_err-advance.field-0.0 c.loop-step-test.true c.loop-step.invariant c.in_err-advance.ensures.stack)

pub loop-step-init : goal.loop-step-init
loop-step-init c =
    ap (λ xs. exp_of_steps c.args.steps.now (record { atoms = map low_exp_of c.args.atoms.items; stack = map low_exp_of (reverse xs) })) (sym c.new-stack.ensures.items)

pub loop-step-preserved : goal.loop-step-preserved
loop-step-preserved c =
    goes_on _ c.args.steps.now c.loop-step.step-index _ (building_of c.loop-step.building) (building_of c.advance.new.self) c.loop-step-test.true c.loop-step.invariant c.in_ok-advance.ensures.stack c.in_ok-advance.ensures.atoms
