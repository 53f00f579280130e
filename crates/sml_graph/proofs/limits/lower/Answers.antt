use Rattle.std.proofs.Common.{◌≡◌, ◌<◌, sym, ap, ◌∙◌}
use Rattle.sml_graph.specs.Limits.{height, limit_at, both}
use Rattle.sml_graph.proofs.Asking.{height-lower}
use Rattle.sml_graph.proofs.Limiting.{lowers-one, lowers-low}
use Rattle.sml_graph.proofs.limits.lower.Goals as goal

pub returns-in_ok-set : goal.returns-in_ok-set
returns-in_ok-set c =
    let ls = c.args.limits.now in
    let old = limit_at ls c.args.at in
    let e = c.get-old.ensures in
    let x : c.and-lowered.result ≡ both old c.args.limit = c.and-lowered.ensures.value ∙ ap (λ a. both a c.args.limit) e in
    let n : both old c.args.limit ≡ old → ⊥ = λ n. c.if-not-is_same_limit.ensures.no (x ∙ (n ∙ sym e)) in
    let h : height c.and-lowered.result < height old = rw x (height-lower old c.args.limit c.and-lowered.ensures.newness c.and-lowered.ensures.locality n) in
    rw (c.in_ok-set.ensures, c.in_ok-push.ensures.items, c.of.ensures) (lowers-one ls c.args.pending.now.items c.args.at c.args.limit c.and-lowered.result c.requires x h)

pub returns-else-not-is_same_limit : goal.returns-else-not-is_same_limit
returns-else-not-is_same_limit c =
    lowers-low c.args.limits.now c.args.pending.now.items c.args.at c.args.limit (rw c.get-old.ensures at (sym c.and-lowered.ensures.value ∙ c.if-not-is_same_limit.ensures.yes))
