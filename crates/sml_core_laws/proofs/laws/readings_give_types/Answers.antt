use Rattle.sml_core_laws.proofs.Made.{readings-give-types}
use Rattle.sml_core_laws.proofs.laws.readings_give_types.Goals as goal

pub returns : goal.returns
returns c = readings-give-types
