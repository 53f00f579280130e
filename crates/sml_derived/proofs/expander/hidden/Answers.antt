use Rattle.std.proofs.Common.{rules}
use Rattle.sml_derived.specs.Words.{hidden}
use Rattle.sml_derived.proofs.expander.hidden.Goals as goal

pub returns : goal.returns
unfolding hidden
returns c = search rules
