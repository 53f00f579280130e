use Rattle.std.proofs.Common.{◌≡◌, List, ap, ◌∙◌, drop}
use Rattle.sml_lex.specs.declared.fault.Place.{Place}
use Rattle.sml_tree.specs.Names.{Name}
use Rattle.sml_tree.specs.Structures.{StrExp}
use Rattle.sml_tree.specs.Clauses.{Constraint}
use Rattle.sml_phrases.specs.Phrases.{Phrase, at, first, constraints_in, name_in, str_in}
use Rattle.sml_phrases.specs.PhraseViews.{seen}
use Rattle.sml_bare_mods.specs.StructureRules.{begun_fun_bind}
use Rattle.sml_phrases.proofs.Answers.{puts_same}
use Rattle.sml_phrases.proofs.Drops.{two_off, four_off, next_off}
use Rattle.sml_bare_mods.proofs.functor_rules.begun_fun_bind.Goals as goal

bind_same : (v a b d e f g : List Phrase) (x : Name Place) (y : Phrase) (cs : List (Constraint Place)) (s : StrExp Place)
    → a ≡ drop 1 v → b ≡ drop 1 a → d ≡ drop 1 b → e ≡ drop 1 d → f ≡ drop 1 e → g ≡ drop 1 f
    → x ≡ name_in (first v) → y ≡ first b → cs ≡ constraints_in (first e) → s ≡ str_in (first g)
    → begun_fun_bind x y cs s ≡ begun_fun_bind (name_in (at v 0)) (at v 2) (constraints_in (at v 4)) (str_in (at v 6))
bind_same v a b d e f g x y cs s p1 p2 p3 p4 p5 p6 h1 h2 h3 h4 =
    let four = four_off v a b d e p1 p2 p3 p4 in
    let six = next_off 5 v f g (next_off 4 v e f four p5) p6 in
    ap (λ z. begun_fun_bind z y cs s) h1
    ∙ ap (λ z. begun_fun_bind (name_in (at v 0)) z cs s) (h2 ∙ ap first (two_off v a b p1 p2))
    ∙ ap (λ z. begun_fun_bind (name_in (at v 0)) (at v 2) z s) (h3 ∙ ap (λ l. constraints_in (first l)) four)
    ∙ ap (λ z. begun_fun_bind (name_in (at v 0)) (at v 2) (constraints_in (at v 4)) z) (h4 ∙ ap (λ l. str_in (first l)) six)

pub returns : goal.returns
returns c =
    let v = seen c.args.stack.now in
    let a = seen c.name.new.self in
    let b = seen c.skip.new.self in
    let d = seen c.pop-argument.new.self in
    let e = seen c.skip-2.new.self in
    let f = seen c.pop_constraints-none.new.stack in
    let g = seen c.skip-3.new.self in
    let p1 = c.in_ok-name.ensures.rest in
    let p2 = c.skip.ensures in
    let p3 = c.pop-argument.ensures.rest in
    let p4 = c.skip-2.ensures in
    let p5 = c.pop_constraints-none.ensures.rest in
    let p6 = c.skip-3.ensures in
    puts_same _ _ 7 v _ _ c.begun_fun_bind_of.result
    (bind_same v a b d e f g _ _ _ _ p1 p2 p3 p4 p5 p6 c.in_ok-name.ensures.value c.pop-argument.ensures.value c.pop_constraints-none.ensures.constraints c.str-body.ensures.value)
    (next_off 6 v g _ (next_off 5 v f g (next_off 4 v e f (four_off v a b d e p1 p2 p3 p4) p5) p6) c.str-body.ensures.rest)
    c.begun_fun_bind_of.ensures
