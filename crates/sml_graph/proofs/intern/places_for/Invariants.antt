use Rattle.std.proofs.Common.{◌≡◌, ◌+◌, ◌++◌, map, take, vec_len}
use Rattle.sml_objects.specs.Views.{type_of}
use Rattle.sml_graph.specs.Interned.{numbers, seen}
use Rattle.sml_graph.proofs.intern.places_for.Given as goal

abbrev pub invariant-loop-part : goal.invariant-loop-part
invariant-loop-part l = record {
  len : vec_len l.types ≡ vec_len l.initial.types + l.part-index;
  places : l.kids.items ≡ numbers (l.base + vec_len l.initial.types) l.part-index;
  types : seen l.types.items ≡ seen l.initial.types.items ++ map (λ t. type_of t.value) (take l.part-index l.parts);
}
