use Rattle.sml_places.proofs.Differing.{alike-units}
use Rattle.sml_places.proofs.laws.alike_units_are_answered_alike.Goals as goal

pub returns : goal.returns
returns c = alike-units
