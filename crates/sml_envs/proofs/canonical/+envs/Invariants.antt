use Rattle.std.proofs.Common.{◌≡◌, map, filter}
use Rattle.std.specs.Map.Iter.{deref_pair}
use Rattle.sml_objects.specs.Appearance.{firsts_after}
use Rattle.sml_objects.specs.Canonical.{is_new}
use Rattle.sml_objects.specs.Initial.{naming}
use Rattle.sml_objects.specs.Views.{entries_of, maker_of, name_of}
use Rattle.sml_core_rules.specs.Objects.{names_structures}
use Rattle.sml_bases.specs.Views.{env_of, structures_of}
use Rattle.sml_envs.specs.Appearing.{appear_ty_str, appear_value}
use Rattle.sml_envs.proofs.canonical.+envs.Given as goal

abbrev pub invariant-add_structures-loop-structure : goal.invariant-add_structures-loop-structure
invariant-add_structures-loop-structure l =
    map name_of l.seen.keys
    ≡ firsts_after naming (map name_of l.initial.seen.keys) (filter (is_new (maker_of l.made.unit) l.made.first) (names_structures appear_ty_str appear_value (structures_of (entries_of (λ s. env_of s.value) (map deref_pair l.yielded)))))
