use Rattle.std.proofs.Common.{map, take}
use Rattle.sml_types.specs.Meant.{meant}
use Rattle.sml_types.proofs.TypeSizes.{AllSmall}
use Rattle.sml_types.proofs.bindings.types.Given as goal

abbrev pub invariant-loop-side : goal.invariant-loop-side
invariant-loop-side g l = AllSmall (map (λ w. meant w.value) (take l.side-index l.side-items))
