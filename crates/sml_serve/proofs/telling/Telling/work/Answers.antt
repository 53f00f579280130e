use Rattle.std.proofs.Common.{ap}
use Rattle.sml_client.proofs.Telling.{tells_as, tells_both}
use Rattle.sml_serve.proofs.telling.Telling.work.Goals as goal
use Rattle.sml_serve.proofs.telling.Telling.work.Goals.{then-first-place+in_ok-unit, else-first-place}

pub loop-place-preserved : goal.loop-place-preserved
loop-place-preserved c =
    elim c.if-first-place.branch [
      | then-first-place+in_ok-unit w ↦ tells_as _ _ _ (ap (λ o. o.bytes.items) w.out-is) (tells_both _ _ _ c.loop-place.invariant w.in_ok-unit.ensures)
      | else-first-place w ↦ tells_as _ _ _ (ap (λ o. o.bytes.items) w.out-is) c.loop-place.invariant
    ]
