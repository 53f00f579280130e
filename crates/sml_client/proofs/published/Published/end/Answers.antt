use Rattle.std.proofs.Common.{ap, ◌∙◌}
use Rattle.sml_client.proofs.Telling.{tells_as, tells_both}
use Rattle.sml_client.proofs.published.Published.end.Goals as goal
use Rattle.sml_client.proofs.published.Published.end.Goals.{in-Some, then-not-told+in_ok-clear, else-not-told, in_default}

pub loop-uri-preserved : goal.loop-uri-preserved
loop-uri-preserved c =
    elim c.match-remove.branch [
      | in-Some w ↦
          elim w.if-not-told.branch [
            | then-not-told+in_ok-clear v ↦ tells_as _ _ _ (ap (λ o. o.bytes.items) (w.out-is ∙ v.out-is)) (tells_both _ _ _ c.loop-uri.invariant v.in_ok-clear.ensures)
            | else-not-told v ↦ tells_as _ _ _ (ap (λ o. o.bytes.items) (w.out-is ∙ v.out-is)) c.loop-uri.invariant
          ]
      | in_default w ↦ tells_as _ _ _ (ap (λ o. o.bytes.items) w.out-is) c.loop-uri.invariant
    ]
