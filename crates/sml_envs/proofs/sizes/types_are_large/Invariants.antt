use Rattle.std.proofs.Common.{◌≡◌, false, map}
use Rattle.std.specs.Map.Iter.{deref_pair}
use Rattle.sml_objects.specs.Views.{entries_of}
use Rattle.sml_bases.specs.Views.{ty_str_of}
use Rattle.sml_bases.specs.Entries.{some_entry}
use Rattle.sml_envs.specs.Large.{is_large_type}
use Rattle.sml_envs.proofs.sizes.types_are_large.Given as goal

abbrev pub invariant-loop-ty : goal.invariant-loop-ty
invariant-loop-ty g l =
    some_entry (is_large_type (g.M.Mapping.bound_gives l.by) (g.M.Mapping.free_gives l.by) (g.M.Mapping.name_gives l.by)) (entries_of ty_str_of (map deref_pair l.yielded)) ≡ false
