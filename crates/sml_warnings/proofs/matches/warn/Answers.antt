use Rattle.std.proofs.Common.{rules}
use Rattle.sml_warnings.proofs.matches.warn.Goals as goal

pub returns : goal.returns
returns c = (c.in_ok-found.found.items, first_of (search rules, cc), record { sorted = c.in_ok-found.ensures.sorted; all = c.in_ok-found.ensures.warnings })
