use Rattle.std.proofs.Common.{◌<◌, ◌≤◌, take}
use Rattle.std.specs.List.{AllByRecursion}
use Rattle.sml_graph.specs.CodeRanks.{order_at}
use Rattle.sml_graph.proofs.orders.above_all.Given as goal

abbrev pub invariant-loop-kid : goal.invariant-loop-kid
invariant-loop-kid l = record {
  above : AllByRecursion (λ k. order_at l.orders k < l.order) (take l.kid-index l.kids);
  least : l.least ≤ l.order;
}
