use Rattle.std.proofs.Common.{ap, ◌∙◌}
use Rattle.sml_tree.specs.TypeViews.{long_name_of, ty_of}
use Rattle.sml_phrases.specs.Phrases.{of_where, at, first, long_in, names_in, ty_in}
use Rattle.sml_phrases.specs.PhraseViews.{seen}
use Rattle.sml_phrases.proofs.Answers.{puts_same}
use Rattle.sml_phrases.proofs.Drops.{two_off, four_off, next_off}
use Rattle.sml_bare_mods.proofs.signature_rules.equation.Goals as goal

pub returns : goal.returns
returns c =
    let v = seen c.args.stack.now in
    let a = seen c.skip.new.self in
    let b = seen c.names-variables.new.self in
    let d = seen c.long.new.self in
    let e = seen c.skip-2.new.self in
    let p1 = c.skip.ensures in
    let p2 = c.names-variables.ensures.rest in
    let p3 = c.in_ok-constructor.ensures.rest in
    let p4 = c.skip-2.ensures in
    let four = four_off v a b d e p1 p2 p3 p4 in
    let t = ty_of c.ty-ty.result.tree in
    puts_same _ _ 5 v _ _ c.put_where.result
    (ap (λ xs. of_where xs (long_name_of c.in_ok-constructor.constructor) t) (c.names-variables.ensures.value ∙ ap (λ l. names_in (first l)) p1)
    ∙ ap (λ x. of_where (names_in (at v 1)) x t) (c.in_ok-constructor.ensures.value ∙ ap (λ l. long_in (first l)) (two_off v a b p1 p2))
    ∙ ap (of_where (names_in (at v 1)) (long_in (at v 2))) (c.ty-ty.ensures.value ∙ ap (λ l. ty_in (first l)) four))
    (next_off 4 v e _ four c.ty-ty.ensures.rest)
    c.put_where.ensures
