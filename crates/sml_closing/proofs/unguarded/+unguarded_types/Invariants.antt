-- What is left to gather, after what was.
use Rattle.std.proofs.Common.{◌≡◌, map, drop}
use Rattle.sml_tree.specs.TypeViews.{ty_of, tys_of, ty_field_of, ty_fields_of}
use Rattle.sml_core_rules.specs.Closing.{tys_variables, ty_field_variables}
use Rattle.sml_closing.specs.Gathered.{ids_of, with_all}
use Rattle.sml_closing.proofs.unguarded.+unguarded_types.Given as goal

abbrev pub invariant-in_tys-loop-ty : goal.invariant-in_tys-loop-ty
invariant-in_tys-loop-ty l = record {
  left : with_all (ids_of l.found.keys) (tys_variables (tys_of (map ty_of (drop l.ty-index l.tys)))) ≡ with_all (ids_of l.fn.found.keys) (tys_variables (tys_of (map ty_of (l.tys))));
}

abbrev pub invariant-in_ty_fields-loop-field : goal.invariant-in_ty_fields-loop-field
invariant-in_ty_fields-loop-field l = record {
  left : with_all (ids_of l.found.keys) (ty_field_variables (ty_fields_of (map ty_field_of (drop l.field-index l.fields)))) ≡ with_all (ids_of l.fn.found.keys) (ty_field_variables (ty_fields_of (map ty_field_of (l.fields))));
}
