use Rattle.std.proofs.Common.{map, ap, ◌∙◌}
use Rattle.std.proofs.lemmas.List.{take_all}
use Rattle.sml_tree.specs.TypeViews.{ty_of, tys_of, ty_field_of, ty_fields_of}
use Rattle.sml_tree.specs.BindingViews.{typ_bind_of}
use Rattle.sml_tree.specs.Withtype.{replaced, field_replaced}
use Rattle.sml_derived.proofs.Searches.{replaced-map, fields_replaced-map}
use Rattle.sml_derived.proofs.withtype.+replaced.Goals as goal

pub all_replaced-returns : goal.all_replaced-returns
all_replaced-returns t c =
    ap tys_of (c.loop-ty.invariant ∙ ap (map (λ u. replaced (map typ_bind_of c.args.binds.now) (ty_of u))) (take_all c.loop-ty.ty-index c.args.tys.now c.loop-ty-test.false))
    ∙ replaced-map (map typ_bind_of c.args.binds.now) c.args.tys.now

pub fields_replaced-returns : goal.fields_replaced-returns
fields_replaced-returns t c =
    ap ty_fields_of (c.loop-field.invariant ∙ ap (map (λ f. field_replaced (map typ_bind_of c.args.binds.now) (ty_field_of f))) (take_all c.loop-field.field-index c.args.fields.now c.loop-field-test.false))
    ∙ fields_replaced-map (map typ_bind_of c.args.binds.now) c.args.fields.now
