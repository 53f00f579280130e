use Rattle.sml_asks.proofs.Schemes.{flags-are-contexts}
use Rattle.sml_asks.proofs.laws.flags_are_contexts.Goals as goal

pub returns : goal.returns
returns c = flags-are-contexts
