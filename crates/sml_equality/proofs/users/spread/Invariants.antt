use Rattle.std.specs.Prelude.{◌+◌, length}
use Rattle.sml_equality.specs.CodeUsers.{IsSpread, unmarked}
use Rattle.sml_equality.proofs.users.spread.Given as goal

abbrev pub invariant-loop-at : goal.invariant-loop-at
invariant-loop-at l = IsSpread l.users l.from l.marks.items l.left.items

abbrev pub decreases-loop-at : goal.decreases-loop-at
decreases-loop-at l = unmarked l.users l.marks.items + length l.left.items
