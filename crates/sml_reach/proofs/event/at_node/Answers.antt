use Rattle.std.proofs.Common.{◌≡◌, map, reverse, sym, ap, ◌∙◌, subst, OnOk}
use Rattle.std.specs.List.{cons_option}
use Rattle.sml_reach.specs.Senses.{deed_of}
use Rattle.sml_reach.specs.Founds.{found_of}
use Rattle.sml_reach.specs.Events.{seen, text_at, found_at, event_from}
use Rattle.sml_reach.specs.CodeKept.{kept}
use Rattle.sml_reach.proofs.Keeping.{deed_kept}
use Rattle.sml_reach.proofs.event.at_node.Goals as goal

pub returns-in-Inner-clause-events : goal.returns-in-Inner-clause-events
returns-in-Inner-clause-events c =
    let unit = c.args.finder.now.unit.now in
    let tokens = c.args.finder.now.tokens.now in
    let old = map found_of (reverse c.args.founds.now.items) in
    let rule = c.in-Inner.rule in
    subst (λ event. OnOk c.enter_phrase.result (map seen (reverse c.enter_phrase.new.events.items) ≡ cons_option event (map seen (reverse c.args.events.now.items))))
    (sym (deed_kept c.args.scoped (deed_of rule) c.args.token (found_at (text_at unit tokens) c.args.token rule old))
    ∙ ap (λ node. kept c.args.scoped (event_from unit tokens node c.args.token old)) (sym c.in-Inner.is))
    c.enter_phrase.ensures.events
