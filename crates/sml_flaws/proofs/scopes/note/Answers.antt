use Rattle.std.proofs.Common.{◌∷◌, [], ◌&&◌, ◌||◌, false, nat_lt, cond, unwrap_or, get_or, Some, max, refl, sym, ap, ◌∙◌}
use Rattle.std.specs.List.{list_any}
use Rattle.std.specs.HashMap.{get_by}
use Rattle.std.specs.Str.{bytes_eq}
use Rattle.std.proofs.lemmas.List.Folds.{list_any-append}
use Rattle.std.proofs.lemmas.Map.Text.{hash_map_updates_str}
use Rattle.sml_reach.specs.Events.{text_at}
use Rattle.sml_flaws.specs.CodeScopes.{ends_after}
use Rattle.sml_flaws.proofs.Scoping.{or_none, reach_on}
use Rattle.sml_flaws.proofs.scopes.note.Goals as goal

pub returns : goal.returns
returns c = λ before known name node.
    let text = text_at c.args.scopes.now.unit.now c.args.scopes.now.tokens.now in
    let ends = c.args.scopes.now.ends.now in
    let own = c.bytes-name.result.now in
    let old = c.args.reaches.now in
    let end = c.end_at-end.result in
    let reach = c.unwrap_or-reach.ensures ∙ ap (λ o. unwrap_or o 0) (c.copied.ensures ∙ c.get.ensures.value) in
    ap (λ o. nat_lt node (unwrap_or o 0)) (hash_map_updates_str own old c.insert.new.self _ c.in_ok-insert.ensures.updates name)
    ∙ ap (λ n. nat_lt node (unwrap_or (cond (bytes_eq own name) (Some n) (get_by (λ k. bytes_eq name k.now) old)) 0)) (c.max.ensures ∙ ap (λ n. max n end) reach)
    ∙ reach_on (λ q. get_by (λ k. bytes_eq q k.now) old) (λ q. list_any (ends_after text ends q node) before) own name node end (λ q. known q node)
    ∙ ap (λ b. list_any (ends_after text ends name node) before || b) (ap (λ n. nat_lt node n && bytes_eq name own) c.end_at-end.ensures ∙ ap (λ n. nat_lt node (get_or ends c.args.owned.owner 0) && bytes_eq name n) c.bytes-name.ensures ∙ sym (or_none _ false refl))
    ∙ sym (list_any-append (ends_after text ends name node) before (c.args.owned ∷ []))
