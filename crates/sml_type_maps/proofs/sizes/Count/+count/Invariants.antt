use Rattle.std.proofs.Common.{take}
use Rattle.sml_objects.specs.Objects.{types_of}
use Rattle.sml_type_maps.specs.Mapped.{seen}
use Rattle.sml_type_maps.specs.Counted.{HasAddedAbove}
use Rattle.sml_type_maps.proofs.sizes.Count.+count.Given as goal

abbrev pub invariant-add_types-loop-part : goal.invariant-add_types-loop-part
invariant-add_types-loop-part l = HasAddedAbove l.fn.self l.self l.times (types_of (seen (take l.part-index l.parts)))
