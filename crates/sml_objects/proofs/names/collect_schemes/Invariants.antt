use Rattle.std.proofs.Common.{◌≡◌, map}
use Rattle.std.specs.Map.Iter.{deref_pair}
use Rattle.sml_objects.specs.Appearance.{firsts_after, appear_map}
use Rattle.sml_objects.specs.Initial.{naming}
use Rattle.sml_objects.specs.Views.{schemes_of, name_of}
use Rattle.sml_objects.proofs.names.collect_schemes.Given as goal

abbrev pub invariant-loop-scheme : goal.invariant-loop-scheme
invariant-loop-scheme l =
    map name_of l.seen.keys ≡ firsts_after naming (map name_of l.initial.seen.keys) (appear_map (schemes_of (map deref_pair l.yielded)))
