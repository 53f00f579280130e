use Rattle.std.proofs.Common.{◌≡◌, List, ap, ◌∙◌, drop, map}
use Rattle.sml_lex.specs.declared.fault.Place.{Place}
use Rattle.sml_tree.specs.Names.{Name}
use Rattle.sml_tree.specs.TypeViews.{name_of}
use Rattle.sml_phrases.specs.Phrases.{Phrase, at, first, name_in, names_in}
use Rattle.sml_phrases.specs.PhraseViews.{seen}
use Rattle.sml_bare_mods.specs.SpecificationRules.{type_rest}
use Rattle.sml_phrases.proofs.Answers.{puts_same}
use Rattle.sml_phrases.proofs.Drops.{two_off, three_off}
use Rattle.sml_bare_mods.proofs.specification_rules.type_rest.Goals as goal

rest_same : (v a b : List Phrase) (xs : List (Name Place)) (x : Name Place) (y : Phrase)
    → a ≡ drop 1 v → b ≡ drop 1 a → xs ≡ names_in (first v) → x ≡ name_in (first a) → y ≡ first b
    → type_rest xs x y ≡ type_rest (names_in (at v 0)) (name_in (at v 1)) (at v 2)
rest_same v a b xs x y p1 p2 h1 h2 h3 =
    ap (λ z. type_rest z x y) h1
    ∙ ap (λ z. type_rest (names_in (at v 0)) z y) (h2 ∙ ap (λ l. name_in (first l)) p1)
    ∙ ap (λ z. type_rest (names_in (at v 0)) (name_in (at v 1)) z) (h3 ∙ ap first (two_off v a b p1 p2))

pub returns : goal.returns
returns c =
    let v = seen c.args.stack.now in
    let a = seen c.names-variables.new.self in
    let b = seen c.name.new.self in
    let p1 = c.names-variables.ensures.rest in
    let p2 = c.in_ok-name.ensures.rest in
    puts_same _ _ 3 v _ _ c.type_rest_of.result
    (rest_same v a b _ _ _ p1 p2 (ap (map name_of) c.reverse.ensures.items ∙ c.names-variables.ensures.value) c.in_ok-name.ensures.value c.pop-rest.ensures.value)
    (three_off v a b _ p1 p2 c.pop-rest.ensures.rest)
    c.type_rest_of.ensures
