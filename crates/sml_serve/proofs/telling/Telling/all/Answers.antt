use Rattle.sml_client.proofs.Taking.{on_ok}
use Rattle.sml_client.proofs.Telling.{tells_both}
use Rattle.sml_serve.proofs.telling.Telling.all.Goals as goal

pub loop-work-preserved : goal.loop-work-preserved
loop-work-preserved g c = tells_both _ _ _ c.loop-work.invariant c.in_ok-work-2.ensures

pub returns : goal.returns
returns g c =
    on_ok c.end.result (tells_both _ _ _ (tells_both _ _ _ c.in_ok-work.ensures (tells_both _ _ _ c.loop-work.invariant c.in_ok-project.ensures))) c.end.ensures
