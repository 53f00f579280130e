use Rattle.sml_client.proofs.Taking.{on_ok}
use Rattle.sml_client.proofs.Telling.{tells_of}
use Rattle.sml_serve.proofs.telling.Telling.file.Goals as goal

pub returns : goal.returns
returns c = on_ok c.tell.result (tells_of _ _ _ _) c.tell.ensures
