use Rattle.sml_equality.proofs.Settling.{largest-admits}
use Rattle.sml_equality.proofs.laws.largest_admits.Goals as goal

pub returns : goal.returns
returns c = largest-admits
