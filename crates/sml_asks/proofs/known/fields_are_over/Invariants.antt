use Rattle.std.proofs.Common.{take}
use Rattle.std.specs.List.{AllByRecursion}
use Rattle.sml_graph.specs.Interned.{IsOver, demanded}
use Rattle.sml_asks.proofs.known.fields_are_over.Given as goal

abbrev pub invariant-loop-field : goal.invariant-loop-field
invariant-loop-field l = AllByRecursion (λ f. IsOver l.count f.1) (demanded (take l.field-index l.fields))
