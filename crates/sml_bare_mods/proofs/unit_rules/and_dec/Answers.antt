use Rattle.std.proofs.Common.{map, reverse, ap, ◌∙◌}
use Rattle.sml_tree.specs.ExpressionViews.{dec_of, decs_of}
use Rattle.sml_tree.specs.Expressions.{and_dec}
use Rattle.sml_phrases.specs.Phrases.{of_decs, at, first, dec_in, decs_in}
use Rattle.sml_phrases.specs.PhraseViews.{seen}
use Rattle.sml_phrases.proofs.Answers.{puts_same}
use Rattle.sml_phrases.proofs.Drops.{two_off}
use Rattle.sml_bare_mods.proofs.Pushes.{pushed}
use Rattle.sml_bare_mods.proofs.unit_rules.and_dec.Goals as goal

pub returns : goal.returns
returns c =
    let v = seen c.args.stack.now in
    let p = c.dec-dec.ensures.rest in
    puts_same _ _ 2 v _ _ c.put.result
    (ap (λ ds. of_decs (decs_of ds)) (pushed dec_of _ _ _ c.in_ok-push.ensures.items)
    ∙ ap (λ d. of_decs (and_dec d (decs_of (map dec_of (reverse c.decs-trees.result.trees.items))))) c.dec-dec.ensures.value
    ∙ ap (λ ds. of_decs (and_dec (dec_in (at v 0)) ds)) (c.decs-trees.ensures.value ∙ ap (λ l. decs_in (first l)) p))
    (two_off v _ _ p c.decs-trees.ensures.rest)
    c.put.ensures
