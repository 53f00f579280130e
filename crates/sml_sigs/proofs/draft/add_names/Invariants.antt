use Rattle.std.proofs.Common.{◌≡◌, map, take}
use Rattle.sml_objects.specs.Appearance.{firsts_after}
use Rattle.sml_objects.specs.Initial.{naming}
use Rattle.sml_objects.specs.Views.{name_of}
use Rattle.sml_sigs.proofs.draft.add_names.Given as goal

abbrev pub invariant-loop-name : goal.invariant-loop-name
invariant-loop-name l =
    map name_of l.set.keys ≡ firsts_after naming (map name_of l.initial.set.keys) (map name_of (take l.name-index l.names))
