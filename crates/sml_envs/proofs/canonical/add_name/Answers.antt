use Rattle.std.proofs.Common.{map, sym}
use Rattle.sml_objects.specs.Canonical.{is_new}
use Rattle.sml_objects.specs.Views.{maker_of, name_of}
use Rattle.sml_envs.proofs.Appearances.{not-wanted, wanted}
use Rattle.sml_envs.proofs.canonical.add_name.Goals as goal

pub returns-in_ok-insert : goal.returns-in_ok-insert
returns-in_ok-insert c =
    wanted (is_new (maker_of c.args.made.unit) c.args.made.first) c.args.name c.args.seen.now.keys c.insert.new.self.keys c.in_ok-insert.ensures.keys
    (sym c.if-is_made.ensures)

pub returns-else-is_made : goal.returns-else-is_made
returns-else-is_made c =
    not-wanted (is_new (maker_of c.args.made.unit) c.args.made.first) (map name_of c.args.seen.now.keys) (name_of c.args.name) (sym c.if-is_made.ensures)
