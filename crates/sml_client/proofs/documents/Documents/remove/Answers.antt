use Rattle.std.proofs.Common.{None}
use Rattle.std.proofs.lemmas.Map.Text.{btree_map_updates_text}
use Rattle.sml_client.proofs.documents.Documents.remove.Goals as goal

pub returns : goal.returns
returns c = btree_map_updates_text c.args.path.now c.args.self.now.open c.remove.new.self None c.remove.ensures.updates
