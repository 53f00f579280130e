-- By the law of runs.
use Rattle.std.specs.Prelude.{[]}
use mathlib.Core.Path.{refl}
use Rattle.sml_objects.specs.Initial.{Name, naming, initial_basis}
use Rattle.sml_units.proofs.Projects.{projects_alike}
use Rattle.sml_units.proofs.Files.{files_isolate}
use Rattle.sml_units.proofs.isolation.seals_isolate_files.Goals as goal

pub returns : goal.returns
returns c = files_isolate (λ us ws oss qss r r' h g.
    projects_alike us ws {v = (Name, naming, (initial_basis, []))} {w = (Name, naming, (initial_basis, []))} refl oss qss r r' h g)
