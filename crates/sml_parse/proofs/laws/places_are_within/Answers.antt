use Rattle.sml_parse.proofs.PlacesWithin.{places_within}
use Rattle.sml_parse.proofs.laws.places_are_within.Goals as goal

pub returns : goal.returns
returns c = places_within
