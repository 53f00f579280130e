use Rattle.std.proofs.Common.{◌≡◌, Err, map, reverse, ap, subst, sym, rules, arith}
use Rattle.std.specs.Option.{option_map}
use Rattle.std.proofs.lemmas.Grind.{common_steps}
use Rattle.sml_tree.specs.TypeViews.{tys_of}
use Rattle.sml_fixity.specs.Shapes.{shape_of}
use Rattle.sml_phrases.specs.PhraseViews.{rest_of}
use Rattle.sml_bare_exps.specs.ExpressionSequences.{sequence_exp}
use Rattle.sml_bare_exps.specs.ExpressionRules.{whole}
use Rattle.sml_bare_exps.specs.ExpressionViews.{GivesExp, low_exp_of, low_ty_of}
use Rattle.sml_bare_exps.proofs.RestHeights.{completed_fails}
use Rattle.sml_bare_exps.proofs.rest_rules.whole_rest.Goals as goal

pub returns-in_err-exp : goal.returns-in_err-exp
returns-in_err-exp c =
    let shape = option_map (λ s. shape_of s.now) c.args.shape in
    let ts = tys_of (map low_ty_of (reverse c.args.rest.tys.trees.items)) in
    let e : c.from_residual-in_err-exp.result ≡ Err c.in_err-exp.field-0.0 = first_of (search rules, grind (arith, common_steps)) in
    subst (GivesExp (whole c.args.place shape (low_exp_of c.args.exp) (rest_of c.args.rest))) (sym e)
    (completed_fails c.args.place _ _ _ _ _ c.in_err-exp.field-0.0 (ap (λ es. sequence_exp shape es ts) c.in_ok-exps.ensures) c.in_err-exp.ensures)
