use Rattle.sml_refusals.proofs.Placed.{refusals-stand}
use Rattle.sml_refusals.proofs.laws.refusals_stand.Goals as goal

pub returns : goal.returns
returns c = refusals-stand
