use Rattle.sml_core_rules.proofs.Runs.{runs-have-scopes}
use Rattle.sml_core_rules.proofs.laws.runs_have_scopes.Goals as goal

pub returns : goal.returns
returns c = runs-have-scopes
