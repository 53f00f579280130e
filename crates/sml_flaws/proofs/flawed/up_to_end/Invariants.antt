-- The nodes so far are the declaration's, and what else is its own stands after them.
use Rattle.std.proofs.Common.{◌≡◌, ◌-◌, ◌≤◌, ◌++◌, take, drop, length}
use Rattle.std.specs.List.{before_first}
use Rattle.sml_flaws.specs.Flawed.{ends_at}
use Rattle.sml_flaws.proofs.flawed.up_to_end.Given as goal

abbrev pub invariant-loop-end : goal.invariant-loop-end
invariant-loop-end l = record {
  within : l.end ≤ length l.nodes;
  kept : before_first ends_at l.nodes ≡ take l.end l.nodes ++ before_first ends_at (drop l.end l.nodes);
}

abbrev pub decreases-loop-end : goal.decreases-loop-end
decreases-loop-end l = length l.nodes - l.end
