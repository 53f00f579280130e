use Rattle.sml_core_rules.proofs.Claims.{readings-derive}
use Rattle.sml_core_rules.proofs.laws.readings_are_derived.Goals as goal

pub returns : goal.returns
returns c = readings-derive
