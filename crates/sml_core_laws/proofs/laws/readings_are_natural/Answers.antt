use Rattle.sml_core_laws.proofs.Natural.{readings-are-natural}
use Rattle.sml_core_laws.proofs.laws.readings_are_natural.Goals as goal

pub returns : goal.returns
returns c = readings-are-natural
