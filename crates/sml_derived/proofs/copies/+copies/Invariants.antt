use Rattle.std.proofs.Common.{◌≡◌, map, take}
use Rattle.sml_tree.specs.TypeViews.{ty_of, ty_field_of}
use Rattle.sml_derived.proofs.copies.+copies.Given as goal

abbrev pub invariant-copies_of_tys-loop-ty : goal.invariant-copies_of_tys-loop-ty
invariant-copies_of_tys-loop-ty l = map ty_of l.copies.items ≡ map ty_of (take l.ty-index l.tys)

abbrev pub invariant-copies_of_fields-loop-field : goal.invariant-copies_of_fields-loop-field
invariant-copies_of_fields-loop-field l = map ty_field_of l.copies.items ≡ map ty_field_of (take l.field-index l.fields)
