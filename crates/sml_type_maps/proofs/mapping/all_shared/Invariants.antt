use Rattle.std.proofs.Common.{◌≡◌, take}
use Rattle.sml_type_maps.specs.Mapped.{seen}
use Rattle.sml_type_maps.proofs.mapping.all_shared.Given as goal

abbrev pub invariant-loop-ty : goal.invariant-loop-ty
invariant-loop-ty l = seen l.shared.items ≡ seen (take l.ty-index l.types)
