use Rattle.std.proofs.Common.{◌≡◌, map, take}
use Rattle.sml_objects.specs.Appearance.{firsts_after, appear_types}
use Rattle.sml_objects.specs.Initial.{naming}
use Rattle.sml_objects.specs.Objects.{types_of}
use Rattle.sml_objects.specs.Views.{name_of}
use Rattle.sml_objects.proofs.TypeViews.{parts_of}
use Rattle.sml_objects.proofs.names.+collect.Given as goal

abbrev pub invariant-collect_types-loop-part : goal.invariant-collect_types-loop-part
invariant-collect_types-loop-part l =
    map name_of l.seen.keys ≡ firsts_after naming (map name_of l.initial.seen.keys) (appear_types (types_of (parts_of (take l.part-index l.parts))))
