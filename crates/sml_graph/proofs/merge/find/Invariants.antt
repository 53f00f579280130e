use Rattle.std.proofs.Common.{◌<◌, vec_len}
use Rattle.sml_graph.specs.Graphs.{IsSame, Leads}
use Rattle.sml_graph.specs.Changes.{Changes}
use Rattle.sml_graph.proofs.merge.find.Given as goal

abbrev pub invariant-loop-next : goal.invariant-loop-next
invariant-loop-next l = record {
  inside : l.here < vec_len l.nodes;
  leads : Leads l.initial.nodes.items l.nodes.items;
  changes : Changes l.initial.nodes.items l.initial.changed.items l.nodes.items l.changed.items;
  same : IsSame l.initial.nodes.items l.at l.here;
}

abbrev pub decreases-loop-next : goal.decreases-loop-next
decreases-loop-next l = l.here
