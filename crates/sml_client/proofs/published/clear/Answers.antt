use Rattle.sml_client.proofs.Taking.{on_ok}
use Rattle.sml_client.proofs.Telling.{tells_once}
use Rattle.sml_client.proofs.published.clear.Goals as goal

pub returns : goal.returns
returns c = on_ok c.send_diagnostics.result (tells_once _ _ _) c.send_diagnostics.ensures
