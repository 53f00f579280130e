use Rattle.std.proofs.Common.{ap, ◌∙◌}
use Rattle.sml_phrases.specs.Phrases.{at, first, name_in}
use Rattle.sml_phrases.specs.PhraseViews.{phrase_of, seen}
use Rattle.sml_phrases.proofs.Answers.{puts_same}
use Rattle.sml_phrases.proofs.Drops.{two_off}
use Rattle.sml_bare_mods.specs.SpecificationRules.{included_name}
use Rattle.sml_bare_mods.proofs.specification_rules.included_name.Goals as goal

pub returns : goal.returns
returns c =
    let v = seen c.args.stack.now in
    let a = seen c.name.new.self in
    let p = c.in_ok-name.ensures.rest in
    puts_same _ _ 2 v _ _ c.included_name_of.result
    (ap (λ x. included_name c.args.place x (phrase_of c.pop-after.result)) c.in_ok-name.ensures.value
    ∙ ap (included_name c.args.place (name_in (at v 0))) (c.pop-after.ensures.value ∙ ap first p))
    (two_off v a _ p c.pop-after.ensures.rest)
    c.included_name_of.ensures
