use Rattle.std.proofs.Common.{◌≡◌, take, []}
use Rattle.std.specs.List.{AllByRecursion}
use Rattle.sml_graph.specs.CodeRanks.{Gives, IsDone, IsSearch, order_at}
use Rattle.sml_graph.proofs.finite.give_orders.Given as goal

abbrev pub invariant-loop-root : goal.invariant-loop-root
invariant-loop-root l = record {
  lowest : l.given.lowest ≡ l.fn.given.lowest;
  limit : l.given.limit ≡ l.fn.given.limit;
  search : IsSearch l.nodes l.fn.given.limit l.orders [];
  gives : Gives l.nodes l.fn.given.lowest l.fn.given.limit l.fn.orders l.orders;
  done : AllByRecursion (λ i. IsDone l.fn.given.limit (order_at l.orders i)) (take l.root-index l.from);
}
