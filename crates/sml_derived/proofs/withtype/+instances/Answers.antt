use Rattle.std.proofs.Common.{map, ap, ◌∙◌}
use Rattle.std.proofs.lemmas.List.{take_all}
use Rattle.sml_tree.specs.TypeViews.{names_of, ty_of, tys_of, ty_field_of, ty_fields_of}
use Rattle.sml_tree.specs.Withtype.{instance, field_instance}
use Rattle.sml_derived.proofs.Searches.{instances-map, field_instances-map}
use Rattle.sml_derived.proofs.withtype.+instances.Goals as goal

pub instances-returns : goal.instances-returns
instances-returns t c =
    ap tys_of (c.loop-ty.invariant ∙ ap (map (λ u. instance (names_of c.args.variables.now) (tys_of (map ty_of c.args.arguments.now)) (ty_of u))) (take_all c.loop-ty.ty-index c.args.tys.now c.loop-ty-test.false))
    ∙ instances-map (names_of c.args.variables.now) (tys_of (map ty_of c.args.arguments.now)) c.args.tys.now

pub instances_of_fields-returns : goal.instances_of_fields-returns
instances_of_fields-returns t c =
    ap ty_fields_of (c.loop-field.invariant ∙ ap (map (λ f. field_instance (names_of c.args.variables.now) (tys_of (map ty_of c.args.arguments.now)) (ty_field_of f))) (take_all c.loop-field.field-index c.args.fields.now c.loop-field-test.false))
    ∙ field_instances-map (names_of c.args.variables.now) (tys_of (map ty_of c.args.arguments.now)) c.args.fields.now
