use Rattle.std.proofs.Common.{◌≡◌, map, []}
use Rattle.std.specs.Map.Iter.{deref_pair}
use Rattle.sml_objects.specs.Maps.{join}
use Rattle.sml_objects.specs.Objects.{rename_env}
use Rattle.sml_objects.specs.Views.{entries_of, env_of}
use Rattle.sml_objects.proofs.Joins.{mapped}
use Rattle.sml_objects.proofs.renames.+renamed.Given as goal

abbrev pub invariant-renamed_structures-loop-name : goal.invariant-renamed_structures-loop-name
invariant-renamed_structures-loop-name g l =
    entries_of (λ s. env_of s.value) l.copies.entries ≡ join [] (mapped (rename_env (g.M.NameMap.gives l.by)) (entries_of (λ s. env_of s.value) (map deref_pair l.yielded)))
