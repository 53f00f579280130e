use Rattle.std.proofs.Common.{◌<◌, ◌≤◌, nat_lt, unwrap_or, take, drop, ap, subst, ◌∙◌}
use Rattle.std.specs.List.{All}
use Rattle.std.specs.HashMap.{get_by}
use Rattle.std.specs.Str.{bytes_eq}
use Rattle.sml_reach.specs.Events.{text_at}
use Rattle.sml_flaws.proofs.Scoping.{passed_all}
use Rattle.sml_flaws.proofs.scopes.Passed.is_scoped.Goals as goal

pub returns-clause-known : goal.returns-clause-known
returns-clause-known c = λ known.
    let text = text_at c.args.scopes.now.unit.now c.args.scopes.now.tokens.now in
    c.in_ok-pass.ensures.known (c.turn_to.ensures.known text c.args.scopes.now.ends.now c.args.scopes.now.owned.items known)

pub returns-clause-scoped : goal.returns-clause-scoped
returns-clause-scoped c = λ ascending known.
    let text = text_at c.args.scopes.now.unit.now c.args.scopes.now.tokens.now in
    let ends = c.args.scopes.now.ends.now in
    let owned = c.args.scopes.now.owned.items in
    let node = c.args.node in
    let name = text c.args.token in
    let passed = c.pass.new.self in
    let kept = c.in_ok-pass.ensures.known (c.turn_to.ensures.known text ends owned known) in
    let before = subst (λ n. All (λ v. v.owner < n) (take passed.count owned)) (c.in_ok-pass.ensures.node ∙ c.turn_to.ensures.node) kept.before in
    let after = subst (λ n. All (λ v. n ≤ v.owner) (drop passed.count owned)) c.turn_to.ensures.node (c.in_ok-pass.ensures.after ascending) in
    ap (nat_lt node) (c.unwrap_or.ensures ∙ ap (λ o. unwrap_or o 0) (c.copied.ensures ∙ c.get.ensures.value))
    ∙ ap (λ q. nat_lt node (unwrap_or (get_by (λ k. bytes_eq q k.now) passed.reaches) 0)) c.bytes-name.ensures
    ∙ kept.reaches name node ∙ passed_all text ends name node owned passed.count before after
