use Rattle.std.proofs.Common.{◌≡◌, ℕ, ◌-◌, ◌≤◌, length}
use Rattle.sml_graph.specs.Limits.{limit_at}
use Rattle.sml_graph.specs.CodeRanks.{order_at}
use Rattle.sml_graph.specs.CodeWhole.{HasBottom}
use Rattle.sml_graph.proofs.graph.fill.Given as goal

abbrev pub invariant-loop-graph : goal.invariant-loop-graph
invariant-loop-graph l = record {
  nodes : l.graph.nodes.items ≡ l.initial.graph.nodes.items;
  limits_len : length l.graph.limits ≡ length l.graph.orders.items;
  orders : (i : ℕ) → order_at l.graph.orders.items i ≡ order_at l.initial.graph.orders.items i;
  limits : (i : ℕ) → limit_at l.graph.limits i ≡ limit_at l.initial.graph.limits i;
  bottom : HasBottom l.graph;
  within : length l.initial.graph.orders.items ≤ length l.initial.graph.nodes.items → length l.graph.orders.items ≤ length l.graph.nodes.items;
}

abbrev pub decreases-loop-graph : goal.decreases-loop-graph
decreases-loop-graph l = length l.graph.nodes.items - length l.graph.orders.items
