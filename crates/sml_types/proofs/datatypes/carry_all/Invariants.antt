use Rattle.std.proofs.Common.{◌≡◌, map}
use Rattle.std.specs.Map.Iter.{deref_pair}
use Rattle.sml_objects.specs.Initial.{Name}
use Rattle.sml_objects.specs.Views.{entries_of}
use Rattle.sml_bases.specs.Views.{ty_str_of}
use Rattle.sml_type_maps.specs.NewNames.{carries, is_new}
use Rattle.sml_types.specs.Carried.{carries_all}
use Rattle.sml_types.proofs.datatypes.carry_all.Given as goal

abbrev pub invariant-loop-ty : goal.invariant-loop-ty
invariant-loop-ty l =
    (goal.iterator-loop-ty).can_next l.ty-iterator × (goal.iterator-loop-ty).is_finite l.ty-iterator
    × (l.new.basis ≡ l.initial.new.basis) × (l.new.unit ≡ l.initial.new.unit) × (l.new.next ≡ l.initial.new.next)
    × ((n : Name) → carries l.new n ≡ carries_all (is_new l.initial.new) (entries_of ty_str_of (map deref_pair l.yielded)) (carries l.initial.new) n)
