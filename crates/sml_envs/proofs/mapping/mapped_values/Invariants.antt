use Rattle.std.proofs.Common.{◌≡◌, [], map}
use Rattle.std.specs.Map.Iter.{deref_pair}
use Rattle.sml_objects.specs.Maps.{join}
use Rattle.sml_objects.specs.Views.{entries_of}
use Rattle.sml_core_rules.specs.Objects.{replaced}
use Rattle.sml_bases.specs.Views.{value_of}
use Rattle.sml_envs.specs.Mapped.{Each, IsOrderedValue, value_by}
use Rattle.sml_envs.proofs.mapping.mapped_values.Given as goal

abbrev pub invariant-loop-name : goal.invariant-loop-name
invariant-loop-name g l =
    Each IsOrderedValue (entries_of value_of (map deref_pair l.yielded))
    → entries_of value_of l.copies.entries ≡ join [] (replaced (value_by (g.M.Mapping.bound_gives l.by) (g.M.Mapping.free_gives l.by) (g.M.Mapping.name_gives l.by)) (entries_of value_of (map deref_pair l.yielded)))
