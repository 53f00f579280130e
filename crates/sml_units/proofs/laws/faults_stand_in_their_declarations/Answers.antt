use Rattle.sml_objects.specs.Initial.{initial_basis}
use Rattle.std.specs.Prelude.{[]}
use Rattle.sml_projects.specs.Orders.{unit_texts}
use Rattle.sml_units.proofs.Standing.{units_stand}
use Rattle.sml_units.proofs.laws.faults_stand_in_their_declarations.Goals as goal

pub returns : goal.returns
returns c = λ p rs may. units_stand [] initial_basis [] (unit_texts p) may.sources may.sources_are may.answers may.run
