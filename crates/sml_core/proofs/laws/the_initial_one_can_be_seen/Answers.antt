use Rattle.sml_core.proofs.Speaking.{initial-can-be-seen}
use Rattle.sml_core.proofs.laws.the_initial_one_can_be_seen.Goals as goal

pub returns : goal.returns
returns c = initial-can-be-seen
