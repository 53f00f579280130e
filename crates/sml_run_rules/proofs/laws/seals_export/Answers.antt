use Rattle.sml_run_rules.proofs.Exported.{seals-export}
use Rattle.sml_run_rules.proofs.laws.seals_export.Goals as goal

pub returns : goal.returns
returns c = seals-export
