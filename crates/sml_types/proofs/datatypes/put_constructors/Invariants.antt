use Rattle.std.proofs.Common.{◌≡◌, length, map}
use Rattle.std.specs.Map.Iter.{deref_pair}
use Rattle.sml_objects.specs.Maps.{join}
use Rattle.sml_objects.specs.Views.{entries_of, schemes_of}
use Rattle.sml_core_rules.specs.Datatypes.{constructors_from}
use Rattle.sml_bases.specs.Views.{value_of}
use Rattle.sml_types.proofs.datatypes.put_constructors.Given as goal

abbrev pub invariant-loop-index : goal.invariant-loop-index
invariant-loop-index l =
    (entries_of value_of l.values.entries
    ≡ join (entries_of value_of l.initial.values.entries) (constructors_from 0 l.count (schemes_of (map deref_pair l.yielded))))
    × (l.index ≡ length l.yielded)
