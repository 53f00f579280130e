use Rattle.std.proofs.Common.{ap, sym, ◌∙◌}
use Rattle.sml_tree.specs.Height.{counted}
use Rattle.sml_tree.proofs.HeightLists.{tys_on, ty_fields_on}
use Rattle.sml_tree.proofs.HeightParts.{ty_field_height-parts}
use Rattle.sml_tree.proofs.heights.+ty_heights.Goals as goal

pub height_of_tys-loop-ty-preserved : goal.height_of_tys-loop-ty-preserved
height_of_tys-loop-ty-preserved t c =
    tys_on c.args.tys.now c.loop-ty.ty-index c.ty-item.result c.height_of_ty.result c.loop-ty.most c.max-most.result c.loop-ty-test.true c.ty-item.is c.height_of_ty.ensures c.loop-ty.invariant c.max-most.ensures

pub height_of_ty_fields-loop-field-preserved : goal.height_of_ty_fields-loop-field-preserved
height_of_ty_fields-loop-field-preserved t c =
    ty_fields_on c.args.fields.now c.loop-field.field-index c.field-item.result c.height_of_ty.result c.loop-field.most c.max-most.result c.loop-field-test.true c.field-item.is (c.height_of_ty.ensures ∙ ap counted (sym (ty_field_height-parts c.field-item.result))) c.loop-field.invariant c.max-most.ensures
