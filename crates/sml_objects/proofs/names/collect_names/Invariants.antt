use Rattle.std.proofs.Common.{◌≡◌, map, take}
use Rattle.sml_objects.specs.Appearance.{firsts_after}
use Rattle.sml_objects.specs.Initial.{naming}
use Rattle.sml_objects.specs.Views.{name_of}
use Rattle.sml_objects.proofs.names.collect_names.Given as goal

abbrev pub invariant-loop-name : goal.invariant-loop-name
invariant-loop-name l =
    map name_of l.seen.keys ≡ firsts_after naming (map name_of l.initial.seen.keys) (map name_of (take l.name-index l.names))
