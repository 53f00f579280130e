use Rattle.std.proofs.Common.{◌≡◌, Err, map, reverse, subst, sym, refl, rules, arith}
use Rattle.std.specs.Option.{option_map}
use Rattle.std.proofs.lemmas.Grind.{common_steps}
use Rattle.sml_tree.specs.TypeViews.{tys_of}
use Rattle.sml_tree.specs.ExpressionViews.{exps_of}
use Rattle.sml_fixity.specs.Shapes.{shape_of}
use Rattle.sml_bare_exps.specs.ExpressionSequences.{exp_place, shaped, sequence_exp}
use Rattle.sml_bare_exps.specs.ExpressionViews.{GivesExp, low_exp_of, low_ty_of}
use Rattle.sml_bare_exps.proofs.ExpressionHeights.{typed_fails}
use Rattle.sml_bare_exps.proofs.expression_sequences.sequence_exp.Goals as goal

pub returns-in_err-exp : goal.returns-in_err-exp
returns-in_err-exp c =
    let shape = option_map (λ s. shape_of s.now) c.args.shape in
    let es = exps_of (map low_exp_of (reverse c.args.exps.items)) in
    let ts = tys_of (map low_ty_of (reverse c.args.tys.items)) in
    let given : GivesExp (shaped shape es) (Err c.in_err-exp.field-0.0) = c.in_err-exp.ensures in
    let e : c.from_residual.result ≡ Err c.in_err-exp.field-0.0 = first_of (search rules, grind (arith, common_steps)) in
    subst (GivesExp (sequence_exp shape es ts)) (sym e) (typed_fails (sequence_exp shape es ts) (exp_place (shaped shape es)) (shaped shape es) ts c.in_err-exp.field-0.0 refl given)
