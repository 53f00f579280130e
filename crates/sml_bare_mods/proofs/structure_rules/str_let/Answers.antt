use Rattle.std.proofs.Common.{◌≡◌, List, ap, ◌∙◌, drop}
use Rattle.sml_lex.specs.declared.fault.Place.{Place}
use Rattle.sml_tree.specs.Structures.{StrDecs, StrExp, str_let}
use Rattle.sml_phrases.specs.Phrases.{Phrase, of_str, at, first, str_decs_in, str_in}
use Rattle.sml_phrases.specs.PhraseViews.{seen}
use Rattle.sml_phrases.proofs.Answers.{puts_same}
use Rattle.sml_phrases.proofs.Drops.{three_off, four_off, next_off}
use Rattle.sml_bare_mods.proofs.structure_rules.str_let.Goals as goal

let_same : (v a b d : List Phrase) (p : Place) (ds : StrDecs Place) (e : StrExp Place)
    → a ≡ drop 1 v → b ≡ drop 1 a → d ≡ drop 1 b → ds ≡ str_decs_in (first a) → e ≡ str_in (first d)
    → of_str (str_let p ds e) ≡ of_str (str_let p (str_decs_in (at v 1)) (str_in (at v 3)))
let_same v a b d p ds e p1 p2 p3 h1 h2 =
    ap (λ y. of_str (str_let p y e)) (h1 ∙ ap (λ l. str_decs_in (first l)) p1)
    ∙ ap (λ y. of_str (str_let p (str_decs_in (at v 1)) y)) (h2 ∙ ap (λ l. str_in (first l)) (three_off v a b d p1 p2 p3))

pub returns : goal.returns
returns c =
    let v = seen c.args.stack.now in
    let a = seen c.skip.new.self in
    let b = seen c.str_decs-decs.new.self in
    let d = seen c.skip-2.new.self in
    let e = seen c.str-body.new.self in
    let p1 = c.skip.ensures in
    let p2 = c.str_decs-decs.ensures.rest in
    let p3 = c.skip-2.ensures in
    let p4 = c.str-body.ensures.rest in
    puts_same _ _ 5 v _ _ c.str_let_of.result
    (let_same v a b d c.args.place _ _ p1 p2 p3 c.str_decs-decs.ensures.value c.str-body.ensures.value)
    (next_off 4 v e _ (four_off v a b d e p1 p2 p3 p4) c.skip-3.ensures)
    c.str_let_of.ensures
