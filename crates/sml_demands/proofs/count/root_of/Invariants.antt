use Rattle.std.proofs.Common.{◌<◌, length}
use Rattle.sml_graph.specs.Graphs.{IsSame}
use Rattle.sml_demands.proofs.count.root_of.Given as goal

abbrev pub invariant-loop-next : goal.invariant-loop-next
invariant-loop-next l = record {
  inside : l.here < length l.nodes;
  same : IsSame l.nodes l.at l.here;
}

abbrev pub decreases-loop-next : goal.decreases-loop-next
decreases-loop-next l = l.here
