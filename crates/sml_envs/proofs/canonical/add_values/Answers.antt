use Rattle.std.proofs.Common.{ap, ◌∙◌, map, refl}
use Rattle.sml_objects.specs.Appearance.{appear_type}
use Rattle.sml_objects.specs.Canonical.{is_new}
use Rattle.sml_objects.specs.Views.{maker_of, name_of, type_of}
use Rattle.sml_bases.specs.Views.{value_of}
use Rattle.sml_envs.specs.Appearing.{appear_value}
use Rattle.sml_envs.proofs.Appearances.{names-next, no-more}
use Rattle.sml_envs.proofs.canonical.add_values.Goals as goal

pub loop-value-init : goal.loop-value-init
loop-value-init c = no-more (is_new (maker_of c.args.made.unit) c.args.made.first) (map name_of c.args.seen.now.keys) _ refl

pub loop-value-preserved : goal.loop-value-preserved
loop-value-preserved c =
    c.in_ok-add_type.ensures
    ∙ names-next (is_new (maker_of c.args.made.unit) c.args.made.first) value_of appear_value c.loop-value.yielded c.in-Some.field-0-0 c.in-Some.value (map name_of c.args.seen.now.keys) _ _
    c.loop-value.invariant
    (ap (λ t. appear_type (type_of t)) (c.deref-in-loop-value.ensures ∙ ap (λ s. s.body.value) c.deref.ensures))
