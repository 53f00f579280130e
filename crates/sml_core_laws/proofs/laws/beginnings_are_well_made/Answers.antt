use Rattle.sml_core_laws.proofs.MadeInitial.{beginnings-are-well-made}
use Rattle.sml_core_laws.proofs.laws.beginnings_are_well_made.Goals as goal

pub returns : goal.returns
returns c = beginnings-are-well-made
