-- The greatest height from here on.
use Rattle.std.proofs.Common.{◌≡◌, ◌≤◌, map, drop, length}
use Rattle.sml_tree.specs.TypeViews.{ty_of, tys_of, ty_field_of, ty_fields_of}
use Rattle.sml_tree.specs.BindingViews.{typ_bind_of}
use Rattle.sml_tree.specs.Height.{counted}
use Rattle.sml_tree.specs.Heights.{tys_height, ty_fields_height}
use Rattle.sml_tree.specs.Withtype.{all_replaced, fields_replaced}
use Rattle.sml_tree.specs.CodeDepths.{reached}
use Rattle.sml_tree.proofs.sides.Sides.+sides.Given as goal

abbrev pub invariant-height_of_fields-loop-index : goal.invariant-height_of_fields-loop-index
invariant-height_of_fields-loop-index l = record {
  most : l.most ≡ counted (ty_fields_height (fields_replaced (map typ_bind_of l.self.types.items) (ty_fields_of (map ty_field_of (drop l.index l.fields)))));
  within : l.index ≤ length l.fields;
}

abbrev pub invariant-height_of_tys-loop-index : goal.invariant-height_of_tys-loop-index
invariant-height_of_tys-loop-index l = record {
  most : l.most ≡ counted (tys_height (all_replaced (map typ_bind_of l.self.types.items) (tys_of (map ty_of (drop l.index l.tys)))));
  within : l.index ≤ length l.tys;
}

abbrev pub invariant-reached-loop-index : goal.invariant-reached-loop-index
invariant-reached-loop-index l = record {
  most : l.most ≡ reached (drop l.index l.depths) (all_replaced (map typ_bind_of l.self.types.items) (tys_of (map ty_of (drop l.index l.tys))));
  within : l.index ≤ length l.tys;
  equally : length l.depths ≡ length l.tys;
}
