use Rattle.sml_core_rules.proofs.Alike.{readings-agree}
use Rattle.sml_core_rules.proofs.laws.readings_agree.Goals as goal

pub returns : goal.returns
returns c = readings-agree
