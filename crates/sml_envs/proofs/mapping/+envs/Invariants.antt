use Rattle.std.proofs.Common.{◌≡◌, [], false, map}
use Rattle.std.specs.Map.Iter.{deref_pair}
use Rattle.sml_objects.specs.Maps.{join}
use Rattle.sml_objects.specs.Views.{entries_of}
use Rattle.sml_core_rules.specs.Objects.{replaced}
use Rattle.sml_bases.specs.Views.{env_of}
use Rattle.sml_envs.specs.Mapped.{AreOrderedIn, Each, env_by}
use Rattle.sml_envs.proofs.mapping.+envs.Given as goal

abbrev pub invariant-mapped_structures-loop-name : goal.invariant-mapped_structures-loop-name
invariant-mapped_structures-loop-name g l =
    Each AreOrderedIn (entries_of (λ s. env_of s.value) (map deref_pair l.yielded))
    → (entries_of (λ s. env_of s.value) l.copies.entries ≡ join [] (replaced (env_by (g.M.Mapping.bound_gives l.by) (g.M.Mapping.free_gives l.by) (g.M.Mapping.name_gives l.by)) (entries_of (λ s. env_of s.value) (map deref_pair l.yielded))))
    × (l.is_changed ≡ false → (l.initial.is_changed ≡ false) × (replaced (env_by (g.M.Mapping.bound_gives l.by) (g.M.Mapping.free_gives l.by) (g.M.Mapping.name_gives l.by)) (entries_of (λ s. env_of s.value) (map deref_pair l.yielded)) ≡ entries_of (λ s. env_of s.value) (map deref_pair l.yielded)))
