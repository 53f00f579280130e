use Rattle.std.proofs.Common.{◌≡◌, map, take}
use Rattle.sml_tree.specs.TypeViews.{ty_of, ty_field_of}
use Rattle.sml_tree.specs.BindingViews.{typ_bind_of}
use Rattle.sml_tree.specs.Withtype.{replaced, field_replaced}
use Rattle.sml_derived.proofs.withtype.+replaced.Given as goal

abbrev pub invariant-all_replaced-loop-ty : goal.invariant-all_replaced-loop-ty
invariant-all_replaced-loop-ty l = map ty_of l.made.items ≡ map (λ u. replaced (map typ_bind_of l.fn.binds) (ty_of u)) (take l.ty-index l.tys)

abbrev pub invariant-fields_replaced-loop-field : goal.invariant-fields_replaced-loop-field
invariant-fields_replaced-loop-field l = map ty_field_of l.made.items ≡ map (λ f. field_replaced (map typ_bind_of l.fn.binds) (ty_field_of f)) (take l.field-index l.fields)
