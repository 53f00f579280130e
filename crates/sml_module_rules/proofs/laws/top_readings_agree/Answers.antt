use Rattle.sml_module_rules.proofs.Tops.{top-readings-agree}
use Rattle.sml_module_rules.proofs.laws.top_readings_agree.Goals as goal

pub returns : goal.returns
returns c = top-readings-agree
