use Rattle.std.proofs.Common.{take}
use Rattle.sml_graph.specs.Graphs.{JoinsFields, fields_of}
use Rattle.sml_graph.specs.Changes.{BeginsWith}
use Rattle.sml_graph.proofs.merge.add_fields.Given as goal

abbrev pub invariant-loop-i : goal.invariant-loop-i
invariant-loop-i l = record {
  joins : JoinsFields (fields_of l.initial.into) (take l.i (fields_of l.from)) (fields_of l.into) l.initial.pending.items l.pending.items;
  more : BeginsWith (fields_of l.initial.into) (fields_of l.into);
}
