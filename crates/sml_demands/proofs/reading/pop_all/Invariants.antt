use Rattle.std.proofs.Common.{◌≡◌, ◌≤◌, ◌+◌, ◌-◌, map, take, drop, vec_len}
use Rattle.sml_objects.specs.Views.{type_of}
use Rattle.sml_demands.specs.CodeReads.{stacked}
use Rattle.sml_demands.proofs.reading.pop_all.Given as goal

abbrev pub invariant-loop-types : goal.invariant-loop-types
invariant-loop-types l = record {
  within : vec_len l.parts ≤ l.count;
  len : vec_len l.types + vec_len l.parts ≡ vec_len l.initial.types;
  parts : map (λ t. type_of t.value) l.parts.items ≡ take (vec_len l.parts) (stacked l.initial.types.items);
  rest : stacked l.types.items ≡ drop (vec_len l.parts) (stacked l.initial.types.items);
}

abbrev pub decreases-loop-types : goal.decreases-loop-types
decreases-loop-types l = l.count - vec_len l.parts
