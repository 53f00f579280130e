use Rattle.sml_asks.proofs.Beginning.{solvers-start-anew}
use Rattle.sml_asks.proofs.laws.solvers_start_anew.Goals as goal

pub returns : goal.returns
returns c = solvers-start-anew
