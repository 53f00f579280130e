-- Two runs begin with the same basis and no exports.
use Rattle.std.specs.Prelude.{[]}
use mathlib.Core.Path.{refl}
use Rattle.sml_objects.specs.Initial.{Name, naming, initial_basis}
use Rattle.sml_units.proofs.Projects.{projects_alike}
use Rattle.sml_units.proofs.isolation.seals_isolate.Goals as goal

pub returns : goal.returns
returns c = λ us ws oss qss r r' h g.
    projects_alike us ws {v = (Name, naming, (initial_basis, []))} {w = (Name, naming, (initial_basis, []))} refl oss qss r r' h g
