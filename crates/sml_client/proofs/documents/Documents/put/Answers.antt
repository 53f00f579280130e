use Rattle.std.proofs.Common.{Some, string_bytes}
use Rattle.std.proofs.lemmas.Map.Text.{btree_map_updates_text}
use Rattle.sml_client.proofs.documents.Documents.put.Goals as goal

pub returns-clause-set : goal.returns-clause-set
returns-clause-set c = btree_map_updates_text (string_bytes c.args.path) c.args.self.now.open c.insert.new.self (Some c.args.document) c.in_ok-insert.ensures.updates
