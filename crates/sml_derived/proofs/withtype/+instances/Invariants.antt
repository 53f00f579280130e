use Rattle.std.proofs.Common.{◌≡◌, map, take}
use Rattle.sml_tree.specs.TypeViews.{names_of, ty_of, tys_of, ty_field_of}
use Rattle.sml_tree.specs.Withtype.{instance, field_instance}
use Rattle.sml_derived.proofs.withtype.+instances.Given as goal

abbrev pub invariant-instances-loop-ty : goal.invariant-instances-loop-ty
invariant-instances-loop-ty l = map ty_of l.made.items ≡ map (λ u. instance (names_of l.fn.variables) (tys_of (map ty_of l.fn.arguments)) (ty_of u)) (take l.ty-index l.tys)

abbrev pub invariant-instances_of_fields-loop-field : goal.invariant-instances_of_fields-loop-field
invariant-instances_of_fields-loop-field l = map ty_field_of l.made.items ≡ map (λ f. field_instance (names_of l.fn.variables) (tys_of (map ty_of l.fn.arguments)) (ty_field_of f)) (take l.field-index l.fields)
