use Rattle.std.proofs.Common.{◌≡◌, ℕ, take}
use Rattle.sml_graph.specs.Graphs.{fields_of}
use Rattle.sml_graph.specs.Interned.{InternsFields, demanded}
use Rattle.sml_graph.specs.Limits.{limit_at}
use Rattle.sml_graph.specs.CodeWhole.{IsFull, IsWhole}
use Rattle.sml_demands.proofs.demands.add_kids.Given as goal

abbrev pub invariant-loop-i : goal.invariant-loop-i
invariant-loop-i l = record {
  interns : InternsFields l.initial.graph.nodes.items l.unknowns (take l.i (demanded l.fields)) l.graph.nodes.items (fields_of l.row) l.pending.items;
  limits : (i : ℕ) → limit_at l.graph.limits i ≡ limit_at l.initial.graph.limits i;
  whole : (u : ℕ) → IsWhole u l.initial.graph → IsWhole u l.graph;
  full : IsFull l.graph;
}
