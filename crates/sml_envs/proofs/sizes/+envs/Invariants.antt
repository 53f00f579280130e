use Rattle.std.proofs.Common.{◌≡◌, false, map}
use Rattle.std.specs.Map.Iter.{deref_pair}
use Rattle.sml_objects.specs.Views.{entries_of}
use Rattle.sml_bases.specs.Views.{env_of}
use Rattle.sml_bases.specs.Entries.{some_entry}
use Rattle.sml_envs.specs.Large.{has_large}
use Rattle.sml_envs.proofs.sizes.+envs.Given as goal

abbrev pub invariant-have_large-loop-structure : goal.invariant-have_large-loop-structure
invariant-have_large-loop-structure g l =
    some_entry (has_large (g.M.Mapping.bound_gives l.by) (g.M.Mapping.free_gives l.by) (g.M.Mapping.name_gives l.by))
    (entries_of (λ s. env_of s.value) (map deref_pair l.yielded)) ≡ false
