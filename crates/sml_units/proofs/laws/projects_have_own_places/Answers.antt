use Rattle.sml_projects.specs.Orders.{unit_texts}
use Rattle.sml_units.proofs.OwnPlaces.{own_places}
use Rattle.sml_units.proofs.laws.projects_have_own_places.Goals as goal

pub returns : goal.returns
returns c = λ us texts p h. own_places us texts h.order (unit_texts p) h.ordered h.units
