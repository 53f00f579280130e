use Rattle.sml_asks.proofs.Mentioning.{schemes-mention-names}
use Rattle.sml_asks.proofs.laws.schemes_mention_names.Goals as goal

pub returns : goal.returns
returns c = schemes-mention-names
