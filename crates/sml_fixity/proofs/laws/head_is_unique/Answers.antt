use Rattle.sml_fixity.proofs.OneHead.{head_is_unique}
use Rattle.sml_fixity.proofs.laws.head_is_unique.Goals as goal

pub returns : goal.returns
returns c = head_is_unique
