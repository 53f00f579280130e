use Rattle.std.proofs.Common.{map, reverse, ap, ◌∙◌}
use Rattle.sml_tree.specs.StructureViews.{str_dec_of, str_decs_of}
use Rattle.sml_tree.specs.Structures.{and_str_dec}
use Rattle.sml_phrases.specs.Phrases.{of_str_decs, at, first, str_dec_in, str_decs_in}
use Rattle.sml_phrases.specs.PhraseViews.{seen}
use Rattle.sml_phrases.proofs.Answers.{puts_same}
use Rattle.sml_phrases.proofs.Drops.{two_off}
use Rattle.sml_bare_mods.proofs.Pushes.{pushed}
use Rattle.sml_bare_mods.proofs.unit_rules.and_str_dec.Goals as goal

pub returns : goal.returns
returns c =
    let v = seen c.args.stack.now in
    let p = c.str_dec-dec.ensures.rest in
    puts_same _ _ 2 v _ _ c.put.result
    (ap (λ ds. of_str_decs (str_decs_of ds)) (pushed str_dec_of _ _ _ c.in_ok-push.ensures.items)
    ∙ ap (λ d. of_str_decs (and_str_dec d (str_decs_of (map str_dec_of (reverse c.str_decs-trees.result.trees.items))))) c.str_dec-dec.ensures.value
    ∙ ap (λ ds. of_str_decs (and_str_dec (str_dec_in (at v 0)) ds)) (c.str_decs-trees.ensures.value ∙ ap (λ l. str_decs_in (first l)) p))
    (two_off v _ _ p c.str_decs-trees.ensures.rest)
    c.put.ensures
