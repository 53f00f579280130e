use Rattle.std.proofs.Common.{◌≡◌, ℕ, false, map, slice_index_or}
use Rattle.std.specs.Map.Iter.{deref}
use Rattle.sml_type_maps.proofs.order.attributes_of.Given as goal

abbrev pub invariant-loop-variable : goal.invariant-loop-variable
invariant-loop-variable l = l.attributes.items ≡ map (λ k. slice_index_or l.equality k false) (map (deref {X = ℕ}) l.yielded)
