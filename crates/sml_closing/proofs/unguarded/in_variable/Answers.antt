use Rattle.std.proofs.Common.{ap}
use Rattle.sml_tree.specs.Views.{ident_of}
use Rattle.sml_closing.proofs.Gathering.{inserted}
use Rattle.sml_closing.proofs.unguarded.in_variable.Goals as goal

pub returns : goal.returns
returns c =
    inserted c.args.found.now.keys c.insert.new.self.keys c.in_ok-clone.field-0 (ident_of c.args.name.now)
    (ap (λ v. v.items) c.in_ok-clone.ensures.cases) c.in_ok-insert.ensures.keys
