use Rattle.std.proofs.Common.{◌≡◌, ◌+◌}
use Rattle.sml_graph.specs.CodeRanks.{IsSearch, Gives, fresh_weight, visit_weight}
use Rattle.sml_graph.proofs.Searching.{Reaches}
use Rattle.sml_graph.proofs.finite.search.Given as goal

abbrev pub invariant-loop-visit : goal.invariant-loop-visit
invariant-loop-visit l = record {
  lowest : l.given.lowest ≡ l.fn.given.lowest;
  limit : l.given.limit ≡ l.fn.given.limit;
  search : IsSearch l.nodes l.fn.given.limit l.orders l.visits.items;
  gives : Gives l.nodes l.fn.given.lowest l.fn.given.limit l.fn.orders l.orders;
  reaches : Reaches l.fn.given.limit l.root l.orders l.visits.items;
}

abbrev pub decreases-loop-visit : goal.decreases-loop-visit
decreases-loop-visit l = fresh_weight l.fn.given.limit l.nodes l.orders + visit_weight l.nodes l.visits.items
