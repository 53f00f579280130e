use Rattle.std.proofs.Common.{◌∷◌, map, reverse, ap, ◌∙◌}
use Rattle.sml_phrases.specs.Phrases.{of_wheres, at, first, where_in, wheres_in}
use Rattle.sml_phrases.specs.PhraseViews.{low_where_of, seen}
use Rattle.sml_phrases.proofs.Answers.{puts_same}
use Rattle.sml_phrases.proofs.Drops.{three_off, two_off}
use Rattle.sml_bare_mods.proofs.signature_rules.and_where.Goals as goal

pub returns : goal.returns
returns c =
    let v = seen c.args.stack.now in
    let a = seen c.skip.new.self in
    let b = seen c.pop_where_type.new.stack in
    let p1 = c.skip.ensures in
    let p2 = c.in_ok-equation.ensures.rest in
    puts_same _ _ 3 v _ _ c.put_wheres.result
    (ap (λ w. of_wheres (w ∷ map low_where_of (reverse c.wheres-equations.result.items))) (c.in_ok-equation.ensures.value ∙ ap (λ l. where_in (first l)) p1)
    ∙ ap (λ ws. of_wheres (where_in (at v 1) ∷ ws)) (c.wheres-equations.ensures.value ∙ ap (λ l. wheres_in (first l)) (two_off v a b p1 p2)))
    (three_off v a b _ p1 p2 c.wheres-equations.ensures.rest)
    c.put_wheres.ensures
