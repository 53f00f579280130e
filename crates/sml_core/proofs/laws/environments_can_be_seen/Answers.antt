use Rattle.sml_core.proofs.Speaking.{can-be-seen}
use Rattle.sml_core.proofs.laws.environments_can_be_seen.Goals as goal

pub returns : goal.returns
returns c = can-be-seen
