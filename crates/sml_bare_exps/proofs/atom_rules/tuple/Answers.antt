use Rattle.std.proofs.Common.{◌≡◌, List, [], ◌∷◌, map, reverse, length, subst, sym, ◌∙◌, refl, rules, arith}
use Rattle.std.proofs.lemmas.Grind.{common_steps}
use Rattle.std.proofs.lemmas.List.{length-reverse}
use Rattle.sml_lex.specs.declared.fault.Place.{Place}
use Rattle.sml_tree.specs.Expressions.{tuple}
use Rattle.sml_tree.specs.ExpressionViews.{exps_of}
use Rattle.sml_bare_exps.specs.ExpressionRules.{tuple_of}
use Rattle.sml_bare_exps.specs.ExpressionViews.{GivesExp, low_exp_of}
use Rattle.sml_phrases.specs.declared.low.LowExp.{LowExp}
use Rattle.sml_bare_exps.proofs.atom_rules.tuple.Goals as goal

others : (p : Place) (es : List LowExp) → (length es ≡ 1 → ⊥) → tuple p (exps_of (map low_exp_of es)) ≡ tuple_of p (exps_of (map low_exp_of es))
others p [] other = refl
others p (e ∷ []) other = absurd (other refl)
others p (e ∷ d ∷ es) other = refl

pub returns-then-len-ne1 : goal.returns-then-len-ne1
returns-then-len-ne1 c =
    let es = c.args.exps.trees.items in
    let count : c.len.result ≡ length es = first_of (search rules, grind (arith, common_steps)) in
    let other : length (reverse es) ≡ 1 → ⊥ = λ e. c.if-len-ne1.true (count ∙ sym (length-reverse es) ∙ e) in
    subst (λ e. GivesExp e c.row_of_exps.result) (others c.args.place (reverse es) other) c.row_of_exps.ensures
