use Rattle.std.proofs.Common.{reverse}
use Rattle.sml_bare.proofs.Within.{first_within}
use Rattle.sml_bare.proofs.rules.is_within.Goals as goal

pub returns : goal.returns
returns c = first_within c.args.stack.now.nothings (reverse c.args.stack.now.held.items)
