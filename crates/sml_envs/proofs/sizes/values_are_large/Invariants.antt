use Rattle.std.proofs.Common.{◌≡◌, false, map}
use Rattle.std.specs.Map.Iter.{deref_pair}
use Rattle.sml_objects.specs.Views.{entries_of}
use Rattle.sml_bases.specs.Views.{value_of}
use Rattle.sml_bases.specs.Entries.{some_entry}
use Rattle.sml_envs.specs.Large.{is_large_value}
use Rattle.sml_envs.proofs.sizes.values_are_large.Given as goal

abbrev pub invariant-loop-value : goal.invariant-loop-value
invariant-loop-value g l =
    some_entry (is_large_value (g.M.Mapping.bound_gives l.by) (g.M.Mapping.free_gives l.by) (g.M.Mapping.name_gives l.by)) (entries_of value_of (map deref_pair l.yielded)) ≡ false
