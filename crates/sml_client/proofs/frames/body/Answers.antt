use Rattle.std.proofs.Common.{◌∙◌, ◌≤◌, ap, length, arith}
use Rattle.std.proofs.lemmas.List.{length-take-le}
use Rattle.sml_client.proofs.Taking.{keeps_all, keeps_on, skipped_after, takes_after, takes_first}
use Rattle.sml_client.proofs.frames.body.Goals as goal

pub returns-then-size-gt-MOST_BYTES : goal.returns-then-size-gt-MOST_BYTES
returns-then-size-gt-MOST_BYTES g c = skipped_after _ _ _ c.skip.result c.if-size-gt-MOST_BYTES.true c.skip.ensures

pub loop-init : goal.loop-init
loop-init g c = keeps_all _

pub returns-then-len-size : goal.returns-then-len-size
returns-then-len-size g c =
    let there : c.args.size ≤ length c.loop.held.bytes.items = (let e = c.len.ensures in let h = c.if-len-size.true in omega (arith, e, h)) in (
      takes_after _ _ _ _ c.loop.invariant
          (takes_first c.args.size c.loop.held.bytes.items (g.I.In.remaining c.loop.input) _ _ c.in_ok-take.ensures.taken c.in_ok-take.ensures.left),
      ap length c.in_ok-take.ensures.taken ∙ length-take-le c.args.size c.loop.held.bytes.items there,
    )

pub loop-preserved : goal.loop-preserved
loop-preserved g c = keeps_on _ _ _ c.loop.invariant c.in_ok-fill.ensures
