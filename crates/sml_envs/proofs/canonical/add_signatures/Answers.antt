use Rattle.std.proofs.Common.{ap, ◌∙◌, map, refl}
use Rattle.sml_objects.specs.Canonical.{is_new}
use Rattle.sml_objects.specs.Views.{maker_of, name_of}
use Rattle.sml_bases.specs.Views.{env_of, sig_of}
use Rattle.sml_envs.specs.Appearing.{appear_env, appear_sig}
use Rattle.sml_envs.proofs.Appearances.{names-next, no-more}
use Rattle.sml_envs.proofs.canonical.add_signatures.Goals as goal

pub loop-signature-init : goal.loop-signature-init
loop-signature-init c = no-more (is_new (maker_of c.args.made.unit) c.args.made.first) (map name_of c.args.seen.now.keys) _ refl

pub loop-signature-preserved : goal.loop-signature-preserved
loop-signature-preserved c =
    c.in_ok-add_env.ensures
    ∙ names-next (is_new (maker_of c.args.made.unit) c.args.made.first) (λ s. sig_of s.value) appear_sig c.loop-signature.yielded c.in-Some.field-0-0 c.in-Some.signature (map name_of c.args.seen.now.keys) _ _
    c.loop-signature.invariant
    (ap (λ e. appear_env (env_of e)) (c.deref-in-loop-signature.ensures ∙ ap (λ s. s.env.value) c.deref.ensures))
