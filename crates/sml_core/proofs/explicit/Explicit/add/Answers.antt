use Rattle.std.proofs.Common.{ap}
use Rattle.sml_tree.specs.Views.{ident_of}
use Rattle.sml_core.proofs.Begun.{added}
use Rattle.sml_core.proofs.explicit.Explicit.add.Goals as goal

pub returns : goal.returns
returns c =
    added c.args.self.now (record c.args.self.now { unknowns = c.insert.new.self }) c.in_ok-clone.field-0 (ident_of c.args.name.now) c.args.unknown (ap (λ v. v.items) c.in_ok-clone.ensures.cases) c.in_ok-insert.ensures.entries
