use Rattle.std.proofs.Common.{◌≡◌, map, take}
use Rattle.sml_tree.specs.Height.{counted}
use Rattle.sml_tree.specs.Heights.{tys_height, ty_fields_height}
use Rattle.sml_tree.specs.TypeViews.{tys_of, ty_of, ty_fields_of, ty_field_of}
use Rattle.sml_tree.proofs.heights.+ty_heights.Given as goal

abbrev pub invariant-height_of_tys-loop-ty : goal.invariant-height_of_tys-loop-ty
invariant-height_of_tys-loop-ty l = l.most ≡ counted (tys_height (tys_of (map ty_of (take l.ty-index l.tys))))

abbrev pub invariant-height_of_ty_fields-loop-field : goal.invariant-height_of_ty_fields-loop-field
invariant-height_of_ty_fields-loop-field l = l.most ≡ counted (ty_fields_height (ty_fields_of (map ty_field_of (take l.field-index l.fields))))
