use Rattle.std.proofs.Common.{◌≡◌, Err, map, reverse, subst, sym, rules, arith}
use Rattle.std.proofs.lemmas.Grind.{common_steps}
use Rattle.sml_tree.specs.Expressions.{typed}
use Rattle.sml_tree.specs.TypeViews.{tys_of}
use Rattle.sml_bare_exps.specs.ExpressionSequences.{exp_place, typed_by}
use Rattle.sml_bare_exps.specs.ExpressionViews.{GivesExp, low_exp_of, low_ty_of}
use Rattle.sml_bare_exps.proofs.ExpressionHeights.{typed_fails}
use Rattle.sml_bare_exps.proofs.expression_sequences.typed_by.Goals as goal

pub returns-in_err-exp : goal.returns-in_err-exp
returns-in_err-exp c =
    let p = exp_place (low_exp_of c.args.exp) in
    let whole = typed_by p (low_exp_of c.args.exp) (tys_of (map low_ty_of (reverse c.args.tys.items))) in
    let last = typed p (low_exp_of c.loop-ty.exp) (low_ty_of c.in-Some.ty) in
    let rest = tys_of (map low_ty_of (reverse c.pop.new.self.items)) in
    let made : whole ≡ typed_by p last rest = first_of (search rules, grind (arith, common_steps)) in
    let given : GivesExp last (Err c.in_err-exp.field-0.0) = first_of (search rules, grind (arith, common_steps)) in
    let e : c.from_residual.result ≡ Err c.in_err-exp.field-0.0 = first_of (search rules, grind (arith, common_steps)) in
    subst (GivesExp whole) (sym e) (typed_fails whole p last rest c.in_err-exp.field-0.0 made given)
