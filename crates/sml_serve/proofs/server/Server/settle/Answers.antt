use Rattle.sml_client.proofs.Telling.{tells_both}
use Rattle.sml_serve.proofs.server.Server.settle.Goals as goal

pub returns : goal.returns
returns g c = tells_both _ _ _ c.in_ok-begin.ensures c.in_ok-all.ensures
