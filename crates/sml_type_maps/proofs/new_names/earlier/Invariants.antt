use Rattle.std.proofs.Common.{◌≡◌, drop}
use Rattle.sml_objects.specs.Views.{maker_of}
use Rattle.sml_type_maps.specs.NewNames.{listed_below}
use Rattle.sml_type_maps.proofs.new_names.earlier.Given as goal

abbrev pub invariant-loop-needed : goal.invariant-loop-needed
invariant-loop-needed l =
    listed_below l.needed-items (maker_of l.name.unit) l.name.number
    ≡ listed_below (drop l.needed-index l.needed-items) (maker_of l.name.unit) l.name.number
