use Rattle.std.proofs.Common.{rules}
use Rattle.sml_tree.specs.Views.{ident_of}
use Rattle.sml_tree.proofs.Tables.{deep_given}
use Rattle.sml_tree.proofs.depths.set_depth.Goals as goal

pub returns : goal.returns
returns c = λ v.
    deep_given c.args.deepest.now.entries c.insert.new.self.entries c.in_ok-key.key c.args.depth (ident_of c.args.variable.now) v c.in_ok-insert.ensures.entries (search rules)
