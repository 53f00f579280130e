use Rattle.std.proofs.Common.{false, sym, true}
use Rattle.sml_objects.specs.Views.{scheme_of}
use Rattle.sml_core_rules.specs.Functions as F
use Rattle.sml_sigs.proofs.Bounding.{bound-by}
use Rattle.sml_sigs.proofs.bound.bound_name.Goals as goal

pub returns-then-contains : goal.returns-then-contains
returns-then-contains c =
    bound-by c.args.names.now.keys c.in_ok-name.name (F.name_of (scheme_of c.args.function.now)) true c.in_ok-name.ensures (sym c.if-contains.ensures)

pub returns-else-contains : goal.returns-else-contains
returns-else-contains c =
    bound-by c.args.names.now.keys c.in_ok-name.name (F.name_of (scheme_of c.args.function.now)) false c.in_ok-name.ensures (sym c.if-contains.ensures)
