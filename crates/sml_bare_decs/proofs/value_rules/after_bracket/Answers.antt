use Rattle.std.proofs.Common.{◌≡◌, List, ap, ◌∙◌, drop}
use Rattle.sml_lex.specs.declared.fault.Place.{Place}
use Rattle.sml_tree.specs.Types.{Tys}
use Rattle.sml_tree.specs.Patterns.{Pats}
use Rattle.sml_tree.specs.Expressions.{Exp, ValBinds}
use Rattle.sml_phrases.specs.Phrases.{Phrase, of_round_values, at, first, pats_in, exp_in}
use Rattle.sml_phrases.specs.PhraseViews.{seen}
use Rattle.sml_bare_decs.specs.DeclarationRules.{atoms_in, values_in, round_values}
use Rattle.sml_phrases.proofs.Answers.{puts_same}
use Rattle.sml_phrases.proofs.Drops.{three_off, four_off, next_off}
use Rattle.sml_bare_decs.proofs.value_rules.after_bracket.Goals as goal

round_made : (v a d e : List Phrase) (rs qs : Pats Place) (ts : Tys Place) (x : Exp Place) (bs recs : ValBinds Place) → a ≡ drop 1 v → d ≡ drop 3 v → e ≡ drop 4 v
    → rs ≡ pats_in (first v) → qs ≡ (atoms_in (first a)).pats → ts ≡ (atoms_in (first a)).tys → x ≡ exp_in (first d) → bs ≡ (values_in (first e)).plain → recs ≡ (values_in (first e)).recursive
    → of_round_values rs qs ts x bs recs ≡ round_values (pats_in (at v 0)) (atoms_in (at v 1)) (exp_in (at v 3)) (values_in (at v 4))
round_made v a d e rs qs ts x bs recs p1 p3 p4 h1 h2 h3 h4 h5 h6 =
    ap (λ y. of_round_values y qs ts x bs recs) h1
    ∙ ap (λ y. of_round_values (pats_in (at v 0)) y ts x bs recs) (h2 ∙ ap (λ l. (atoms_in (first l)).pats) p1)
    ∙ ap (λ y. of_round_values (pats_in (at v 0)) (atoms_in (at v 1)).pats y x bs recs) (h3 ∙ ap (λ l. (atoms_in (first l)).tys) p1)
    ∙ ap (λ y. of_round_values (pats_in (at v 0)) (atoms_in (at v 1)).pats (atoms_in (at v 1)).tys y bs recs) (h4 ∙ ap (λ l. exp_in (first l)) p3)
    ∙ ap (λ y. of_round_values (pats_in (at v 0)) (atoms_in (at v 1)).pats (atoms_in (at v 1)).tys (exp_in (at v 3)) y recs) (h5 ∙ ap (λ l. (values_in (first l)).plain) p4)
    ∙ ap (λ y. of_round_values (pats_in (at v 0)) (atoms_in (at v 1)).pats (atoms_in (at v 1)).tys (exp_in (at v 3)) (values_in (at v 4)).plain y) (h6 ∙ ap (λ l. (values_in (first l)).recursive) p4)

pub returns : goal.returns
returns c =
    let v = seen c.args.stack.now in
    let a = seen c.pats-inner.new.self in
    let b = seen c.pop_atoms-pats.new.stack in
    let d = seen c.skip.new.self in
    let e = seen c.exp-exp.new.self in
    let four = four_off v a b d e c.pats-inner.ensures.rest c.pop_atoms-pats.ensures.rest c.skip.ensures c.exp-exp.ensures.rest in
    puts_same _ _ 5 v (seen c.pop_values-plain.new.stack) _ c.put_round_values.result
    (round_made v a d e _ _ _ _ _ _ c.pats-inner.ensures.rest (three_off v a b d c.pats-inner.ensures.rest c.pop_atoms-pats.ensures.rest c.skip.ensures) four
    c.pats-inner.ensures.value c.pop_atoms-pats.ensures.pats c.pop_atoms-pats.ensures.tys c.exp-exp.ensures.value c.pop_values-plain.ensures.plain c.pop_values-plain.ensures.recursive)
    (next_off 4 v e _ four c.pop_values-plain.ensures.rest)
    c.put_round_values.ensures
