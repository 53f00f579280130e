use Rattle.std.proofs.Common.{◌++◌, []}
use Rattle.sml_client.proofs.Taking.{takes_before, takes_both, takes_first, takes_none}
use Rattle.sml_client.proofs.frames.skip.Goals as goal

pub loop-init : goal.loop-init
loop-init g c = ([], takes_none _)

pub returns-then-left-eq0 : goal.returns-then-left-eq0
returns-then-left-eq0 g c =
    let t = c.in_ok-take.field-0.items in (
      c.loop.invariant.0 ++ t,
      takes_both _ _ _ c.loop.invariant.0 t c.loop.invariant.1
          (takes_first _ c.loop.held.bytes.items (g.I.In.remaining c.loop.input) t _ c.in_ok-take.ensures.taken c.in_ok-take.ensures.left),
    )

pub loop-preserved : goal.loop-preserved
loop-preserved g c =
    let t = c.in_ok-take.field-0.items in (
      c.loop.invariant.0 ++ t,
      takes_before _ _ _ (c.loop.invariant.0 ++ t)
          (takes_both _ _ _ c.loop.invariant.0 t c.loop.invariant.1
          (takes_first _ c.loop.held.bytes.items (g.I.In.remaining c.loop.input) t _ c.in_ok-take.ensures.taken c.in_ok-take.ensures.left))
          c.in_ok-fill.ensures,
    )
