use Rattle.std.proofs.Common.{ap, ◌∙◌, map, refl}
use Rattle.sml_objects.specs.Appearance.{appear_type}
use Rattle.sml_objects.specs.Canonical.{is_new}
use Rattle.sml_objects.specs.Views.{maker_of, name_of, scheme_of, type_of}
use Rattle.sml_envs.specs.Appearing.{appear_scheme}
use Rattle.sml_envs.proofs.Appearances.{names-next, no-more}
use Rattle.sml_envs.proofs.canonical.add_schemes.Goals as goal

pub loop-scheme-init : goal.loop-scheme-init
loop-scheme-init c = no-more (is_new (maker_of c.args.made.unit) c.args.made.first) (map name_of c.args.seen.now.keys) _ refl

pub loop-scheme-preserved : goal.loop-scheme-preserved
loop-scheme-preserved c =
    c.in_ok-add_type.ensures
    ∙ names-next (is_new (maker_of c.args.made.unit) c.args.made.first) (λ s. scheme_of s.value) appear_scheme c.loop-scheme.yielded c.in-Some.field-0-0 c.in-Some.scheme (map name_of c.args.seen.now.keys) _ _
    c.loop-scheme.invariant
    (ap (λ t. appear_type (type_of t)) (c.deref-in-loop-scheme.ensures ∙ ap (λ s. s.body.value) c.deref.ensures))
