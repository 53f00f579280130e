use Rattle.sml_module_rules.proofs.Isolation.{seals-hide}
use Rattle.sml_module_rules.proofs.laws.seals_hide.Goals as goal

pub returns : goal.returns
returns c = seals-hide
