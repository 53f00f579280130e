use Rattle.sml_refusals.proofs.Codes.{refusals-have-codes}
use Rattle.sml_refusals.proofs.laws.refusals_have_codes.Goals as goal

pub returns : goal.returns
returns c = λ scope. refusals-have-codes _ scope
