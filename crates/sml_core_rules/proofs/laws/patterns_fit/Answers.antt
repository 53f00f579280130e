use Rattle.sml_core_rules.proofs.Fits.{patterns-fit}
use Rattle.sml_core_rules.proofs.laws.patterns_fit.Goals as goal

pub returns : goal.returns
returns c = patterns-fit
