use Rattle.sml_run_rules.proofs.Units.{sources-make-units}
use Rattle.sml_run_rules.proofs.laws.sources_make_units.Goals as goal

pub returns : goal.returns
returns c = sources-make-units
