use Rattle.std.proofs.Common.{◌≡◌, map}
use Rattle.std.specs.Map.Iter.{deref_pair}
use Rattle.sml_objects.specs.Appearance.{firsts_after, appear_structures}
use Rattle.sml_objects.specs.Initial.{naming}
use Rattle.sml_objects.specs.Views.{structures_of, entries_of, env_of, name_of}
use Rattle.sml_objects.proofs.names.+collect_env.Given as goal

abbrev pub invariant-collect_structures-loop-structure : goal.invariant-collect_structures-loop-structure
invariant-collect_structures-loop-structure l =
    map name_of l.seen.keys ≡ firsts_after naming (map name_of l.initial.seen.keys) (appear_structures (structures_of (entries_of (λ s. env_of s.value) (map deref_pair l.yielded))))
