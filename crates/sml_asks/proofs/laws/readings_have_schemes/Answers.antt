use Rattle.sml_asks.proofs.Schemes.{readings-have-schemes}
use Rattle.sml_asks.proofs.laws.readings_have_schemes.Goals as goal

pub returns : goal.returns
returns c = readings-have-schemes
