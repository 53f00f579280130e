use Rattle.std.proofs.Common.{◌≡◌, map, take}
use Rattle.sml_objects.specs.Views.{type_of}
use Rattle.sml_type_maps.specs.Mapped.{mapped, seen, types_or}
use Rattle.sml_type_maps.proofs.mapping.+changed.Given as goal

abbrev pub invariant-changed_parts-loop-index : goal.invariant-changed_parts-loop-index
invariant-changed_parts-loop-index g l =
    types_or (seen (take l.index l.parts)) l.copies
    ≡ map (λ t. mapped (g.M.Mapping.bound_gives l.by) (g.M.Mapping.free_gives l.by) (g.M.Mapping.name_gives l.by) (type_of t.value)) (take l.index l.parts)
