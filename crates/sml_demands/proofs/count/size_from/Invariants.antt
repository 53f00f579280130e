use Rattle.std.proofs.Common.{◌≤◌, ◌<◌, ◌+◌, ◌-◌, length}
use Rattle.std.specs.List.{AllByRecursion}
use Rattle.sml_demands.specs.Counted.{IsCounting}
use Rattle.sml_demands.proofs.count.size_from.Given as goal

abbrev pub invariant-loop-at : goal.invariant-loop-at
invariant-loop-at l = record {
  counting : IsCounting l.nodes l.root l.size l.pending.items;
  within : l.size ≤ l.limit;
  inside : AllByRecursion (λ i. i < length l.nodes) l.pending.items;
}

abbrev pub decreases-loop-at : goal.decreases-loop-at
decreases-loop-at l = l.limit + 1 - l.size
