-- An expression with what stands after it is at least as high, so that one that is too high stays so.
use Rattle.std.proofs.Common.{◌≡◌, ◌≤◌, Option, Some, None, Err, arith, ap}
use Rattle.sml_lex.specs.declared.fault.Place.{Place}
use Rattle.sml_tree.specs.Expressions.{Exp, Rules}
use Rattle.sml_tree.specs.Heights.{exp_height}
use Rattle.sml_phrases.specs.declared.phrase.Failure.{Failure}
use Rattle.sml_bare_exps.specs.ExpressionRules.{conjunction, disjunction, handled}
use Rattle.sml_bare_exps.specs.ExpressionViews.{GivesExp}
use Rattle.sml_bare_exps.proofs.ExpressionHeights.{fails}

conjunction_grows : (p : Place) (e : Exp Place) (a : Option (Exp Place)) → exp_height e ≤ exp_height (conjunction p e a)
conjunction_grows p e None = omega arith
conjunction_grows p e (Some a) = omega arith

disjunction_grows : (p : Place) (e : Exp Place) (a : Option (Exp Place)) → exp_height e ≤ exp_height (disjunction p e a)
disjunction_grows p e None = omega arith
disjunction_grows p e (Some a) = omega arith

handled_grows : (p : Place) (e : Exp Place) (rs : Option (Rules Place)) → exp_height e ≤ exp_height (handled p e rs)
handled_grows p e None = omega arith
handled_grows p e (Some rs) = omega arith

pub completed_fails : (p : Place) (d e : Exp Place) (a o : Option (Exp Place)) (rs : Option (Rules Place)) (failure : Failure) → d ≡ e → GivesExp d (Err failure)
    → GivesExp (handled p (disjunction p (conjunction p e a) o) rs) (Err failure)
completed_fails p d e a o rs failure same =
    fails d (handled p (disjunction p (conjunction p e a) o) rs) failure
    (let f = conjunction_grows p e a in
    let g = disjunction_grows p (conjunction p e a) o in
    let h = handled_grows p (disjunction p (conjunction p e a) o) rs in
    let i = ap exp_height same in
    omega (arith, f, g, h, i))
