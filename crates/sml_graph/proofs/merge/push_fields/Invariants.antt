use Rattle.std.proofs.Common.{take}
use Rattle.sml_objects.specs.Views.{label_list}
use Rattle.sml_graph.specs.Graphs.{JoinsRow, fields_of}
use Rattle.sml_graph.proofs.merge.push_fields.Given as goal

abbrev pub invariant-loop-i : goal.invariant-loop-i
invariant-loop-i l = JoinsRow (take l.i (fields_of l.fields)) (label_list l.labels) l.kids l.initial.pending.items l.pending.items
