use Rattle.std.proofs.Common.{◌<◌, length, take}
use Rattle.std.specs.List.{AllByRecursion}
use Rattle.sml_graph.specs.CodeRanks.{IsFoundIn}
use Rattle.sml_graph.proofs.orders.unordered.Given as goal

abbrev pub invariant-loop-change : goal.invariant-loop-change
invariant-loop-change l = record {
  inside : AllByRecursion (λ i. i < length l.nodes) l.found.items;
  rest : AllByRecursion (IsFoundIn l.nodes l.orders l.found.items) (take l.change-index l.changed);
}
