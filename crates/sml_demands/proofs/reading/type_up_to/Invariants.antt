use Rattle.std.proofs.Common.{◌≤◌, ◌+◌, ◌*◌, ◌-◌, reverse}
use Rattle.sml_demands.specs.CodeReads.{stacked, heads, IsReadingOn}
use Rattle.sml_demands.proofs.reading.type_up_to.Given as goal

abbrev pub invariant-loop-task : goal.invariant-loop-task
invariant-loop-task l = record {
  on : IsReadingOn l.nodes l.unknowns l.root l.size (reverse l.tasks.items) (stacked l.types.items);
  within : l.size ≤ l.limit;
}

abbrev pub decreases-loop-task : goal.decreases-loop-task
decreases-loop-task l = 2 * (l.limit + 1 - l.size) + heads (reverse l.tasks.items)
