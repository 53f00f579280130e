use Rattle.sml_asks.proofs.Mentioning.{readings-are-types}
use Rattle.sml_asks.proofs.laws.readings_are_types.Goals as goal

pub returns : goal.returns
returns c = readings-are-types
