use Rattle.std.proofs.Common.{◌≡◌, map}
use Rattle.std.specs.Map.Iter.{deref_pair}
use Rattle.sml_objects.specs.Views.{entries_of}
use Rattle.sml_core_rules.specs.Objects.{replaced}
use Rattle.sml_bases.specs.Views.{value_of}
use Rattle.sml_envs.specs.Mapped.{Each, IsOrderedValue, value_by}
use Rattle.sml_envs.proofs.mapping.values_change.Given as goal

abbrev pub invariant-loop-value : goal.invariant-loop-value
invariant-loop-value g l =
    Each IsOrderedValue (entries_of value_of (map deref_pair l.yielded))
    → replaced (value_by (g.M.Mapping.bound_gives l.by) (g.M.Mapping.free_gives l.by) (g.M.Mapping.name_gives l.by)) (entries_of value_of (map deref_pair l.yielded))
    ≡ entries_of value_of (map deref_pair l.yielded)
