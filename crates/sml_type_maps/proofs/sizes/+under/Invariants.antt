use Rattle.std.proofs.Common.{◌+◌, ◌*◌, suc, take, length, map}
use Rattle.sml_objects.specs.Objects.{types_of}
use Rattle.sml_objects.specs.Sizes.{types_size}
use Rattle.sml_objects.specs.Views.{type_of}
use Rattle.sml_type_maps.specs.Mapped.{mapped, all_mapped, seen}
use Rattle.sml_type_maps.specs.Counted.{HasNodes, nodes_past, uses_in}
use Rattle.sml_type_maps.proofs.AppliedSizes.{weighed}
use Rattle.sml_type_maps.proofs.sizes.+under.Given as goal

abbrev pub invariant-add_all_under-loop-part : goal.invariant-add_all_under-loop-part
invariant-add_all_under-loop-part g l =
    HasNodes l.fn.count l.count
    (l.times * suc (types_size (all_mapped (g.M.Mapping.bound_gives l.by) (g.M.Mapping.free_gives l.by) (g.M.Mapping.name_gives l.by) (types_of (seen (take l.part-index l.parts))))))

abbrev pub invariant-add_applied-loop-part : goal.invariant-add_applied-loop-part
invariant-add_applied-loop-part g l =
    HasNodes l.fn.count l.count
    (l.times
    * (nodes_past (length l.parts) (type_of l.function.body.value)
    + weighed (uses_in (type_of l.function.body.value))
    (map (mapped (g.M.Mapping.bound_gives l.by) (g.M.Mapping.free_gives l.by) (g.M.Mapping.name_gives l.by)) (seen (take (length l.yielded) l.parts)))))
