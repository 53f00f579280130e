use Rattle.std.proofs.Common.{◌≡◌, ◌<◌, None, get_or, sym, ◌∙◌, subst}
use Rattle.std.proofs.lemmas.List.{get_or_default}
use Rattle.sml_demands.specs.CodeLevels.{level_of, level_at}
use Rattle.sml_demands.proofs.Levelling.{levels-one}
use Rattle.sml_demands.proofs.levels.lower_level.Goals as goal

pub returns-in_ok-push : goal.returns-in_ok-push
returns-in_ok-push c =
    let ls = c.args.levels.now.items in
    let a = level_of c.args.level in
    let here : c.index.result.now ≡ get_or ls c.args.at None = c.index.ensures ∙ sym (get_or_default ls c.args.at None _ c.requires) in
    let h : a < level_at ls c.args.at = subst (λ x. a < level_of x) here c.if-is_lower.ensures.yes in
    rw (c.in_ok-push.ensures.items, c.of.ensures) (levels-one ls c.args.pending.now.items c.args.at c.args.level c.requires h)
