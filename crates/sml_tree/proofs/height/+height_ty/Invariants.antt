use Rattle.std.proofs.Common.{◌≡◌, map, take}
use Rattle.sml_tree.specs.Views.{ty_of, tys_of}
use Rattle.sml_tree.specs.Height.{tys_height, counted}
use Rattle.sml_tree.proofs.height.+height_ty.Given as goal

abbrev pub invariant-height_of_tys-loop-ty : goal.invariant-height_of_tys-loop-ty
invariant-height_of_tys-loop-ty l = l.most ≡ counted (tys_height (tys_of (map ty_of (take l.ty-index l.tys))))
