use Rattle.sml_core_rules.proofs.Schemes.{one-scheme}
use Rattle.sml_core_rules.proofs.laws.schemes_are_one.Goals as goal

pub returns : goal.returns
returns c = λ scope s. one-scheme scope s
