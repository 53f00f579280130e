use Rattle.std.specs.Prelude.{◌+◌, length}
use Rattle.sml_schemes.specs.Fixed.{IsReach, unmarked}
use Rattle.sml_demands.proofs.reach.reached.Given as goal

abbrev pub invariant-loop-at : goal.invariant-loop-at
invariant-loop-at l = IsReach l.nodes l.from l.marks.items l.pending.items

abbrev pub decreases-loop-at : goal.decreases-loop-at
decreases-loop-at l = unmarked l.nodes l.marks.items + length l.pending.items
