use Rattle.sml_tree.specs.Views.{ident_of}
use Rattle.sml_fixity.proofs.Maps.{map_changed}
use Rattle.sml_fixity.proofs.scopes.Fixities.put.Goals as goal

pub returns-clause-after : goal.returns-clause-after
returns-clause-after c = map_changed c.args.self.now.table.idents.entries c.insert.new.self.idents.entries (ident_of c.args.name) c.args.fixity c.in_ok-insert.ensures.after
