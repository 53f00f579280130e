use Rattle.sml_asks.proofs.Beginning.{runs-begin}
use Rattle.sml_asks.proofs.laws.runs_begin.Goals as goal

pub returns : goal.returns
returns c = runs-begin
