use Rattle.std.proofs.Common.{◌≡◌, List, [], ◌∷◌, ap, ◌∙◌, drop, map}
use Rattle.sml_lex.specs.declared.fault.Place.{Place}
use Rattle.sml_tree.specs.Names.{Name}
use Rattle.sml_tree.specs.TypeViews.{name_of}
use Rattle.sml_tree.specs.Expressions.{ConBind, DatBind}
use Rattle.sml_phrases.specs.Phrases.{Phrase, of_datatypes, at, first, con_binds_in, dat_binds_in, name_in, names_in}
use Rattle.sml_phrases.specs.PhraseViews.{seen}
use Rattle.sml_phrases.proofs.Answers.{puts_same}
use Rattle.sml_phrases.proofs.Drops.{three_off, four_off, next_off}
use Rattle.sml_bare_mods.proofs.specification_rules.datatype.Goals as goal

abbrev data_of : List (Name Place) → Name Place → List (ConBind Place) → List (DatBind Place) → Phrase
data_of xs x cs ds = of_datatypes (record { variables = xs; name = x; constructors = cs } ∷ ds) []

datatype_same : (v a b d e : List Phrase) (xs : List (Name Place)) (x : Name Place) (cs : List (ConBind Place)) (ds : List (DatBind Place))
    → a ≡ drop 1 v → b ≡ drop 1 a → d ≡ drop 1 b → e ≡ drop 1 d
    → xs ≡ names_in (first v) → x ≡ name_in (first a) → cs ≡ con_binds_in (first d) → ds ≡ dat_binds_in (first e)
    → data_of xs x cs ds ≡ data_of (names_in (at v 0)) (name_in (at v 1)) (con_binds_in (at v 3)) (dat_binds_in (at v 4))
datatype_same v a b d e xs x cs ds p1 p2 p3 p4 h1 h2 h3 h4 =
    ap (λ y. data_of y x cs ds) h1
    ∙ ap (λ y. data_of (names_in (at v 0)) y cs ds) (h2 ∙ ap (λ l. name_in (first l)) p1)
    ∙ ap (λ y. data_of (names_in (at v 0)) (name_in (at v 1)) y ds) (h3 ∙ ap (λ l. con_binds_in (first l)) (three_off v a b d p1 p2 p3))
    ∙ ap (λ y. data_of (names_in (at v 0)) (name_in (at v 1)) (con_binds_in (at v 3)) y) (h4 ∙ ap (λ l. dat_binds_in (first l)) (four_off v a b d e p1 p2 p3 p4))

pub returns : goal.returns
returns c =
    let v = seen c.args.stack.now in
    let a = seen c.names-variables.new.self in
    let b = seen c.name.new.self in
    let d = seen c.skip.new.self in
    let e = seen c.con_binds-constructors.new.self in
    let p1 = c.names-variables.ensures.rest in
    let p2 = c.in_ok-name.ensures.rest in
    let p3 = c.skip.ensures in
    let p4 = c.con_binds-constructors.ensures.rest in
    puts_same _ _ 5 v _ _ c.and_datatype.result
    (datatype_same v a b d e _ _ _ _ p1 p2 p3 p4
    (ap (map name_of) c.reverse.ensures.items ∙ c.names-variables.ensures.value) c.in_ok-name.ensures.value c.con_binds-constructors.ensures.value c.pop_dat_binds-datatypes.ensures.value)
    (next_off 4 v e _ (four_off v a b d e p1 p2 p3 p4) c.pop_dat_binds-datatypes.ensures.rest)
    c.and_datatype.ensures
