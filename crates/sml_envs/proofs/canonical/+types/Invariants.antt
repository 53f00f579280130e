use Rattle.std.proofs.Common.{◌≡◌, map, filter, take}
use Rattle.sml_objects.specs.Appearance.{appear_types, firsts_after}
use Rattle.sml_objects.specs.Canonical.{is_new}
use Rattle.sml_objects.specs.Initial.{naming}
use Rattle.sml_objects.specs.Objects.{types_of}
use Rattle.sml_objects.specs.Views.{maker_of, name_of}
use Rattle.sml_objects.proofs.TypeViews.{parts_of}
use Rattle.sml_envs.proofs.canonical.+types.Given as goal

abbrev pub invariant-add_types-loop-ty : goal.invariant-add_types-loop-ty
invariant-add_types-loop-ty l =
    map name_of l.seen.keys
    ≡ firsts_after naming (map name_of l.initial.seen.keys) (filter (is_new (maker_of l.made.unit) l.made.first) (appear_types (types_of (parts_of (take l.ty-index l.types)))))
