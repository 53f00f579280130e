use Rattle.std.proofs.Common.{◌≡◌, take}
use Rattle.sml_type_maps.specs.Orders.{all_bound_after}
use Rattle.sml_objects.specs.Objects.{types_of}
use Rattle.sml_type_maps.specs.Mapped.{seen as parts_of}
use Rattle.sml_type_maps.proofs.order.+bound.Given as goal

abbrev pub invariant-collect_all_bound-loop-part : goal.invariant-collect_all_bound-loop-part
invariant-collect_all_bound-loop-part l =
    l.seen.keys ≡ all_bound_after l.initial.seen.keys (types_of (parts_of (take l.part-index l.parts)))
