use Rattle.std.proofs.Common.{ap, ◌∙◌, map, ◌++◌, refl}
use Rattle.sml_objects.specs.Canonical.{is_new}
use Rattle.sml_objects.specs.Views.{maker_of, name_of}
use Rattle.sml_bases.specs.Views.{env_of, fun_sig_of}
use Rattle.sml_envs.specs.Appearing.{appear_env, appear_fun_sig}
use Rattle.sml_envs.proofs.Appearances.{names-next, next, no-more}
use Rattle.sml_envs.proofs.canonical.add_functors.Goals as goal

pub loop-functor-init : goal.loop-functor-init
loop-functor-init c = no-more (is_new (maker_of c.args.made.unit) c.args.made.first) (map name_of c.args.seen.now.keys) _ refl

pub loop-functor-preserved : goal.loop-functor-preserved
loop-functor-preserved c =
    let p = is_new (maker_of c.args.made.unit) c.args.made.first in
    let taken = appear_env (env_of c.deref-in-loop-functor.result.now) in
    let given = appear_env (env_of c.deref-in-loop-functor-3.result.now) in
    c.in_ok-add_env-2.ensures
    ∙ next p (map name_of c.loop-functor.seen.keys) _ taken given (taken ++ given) c.in_ok-add_env.ensures refl
    ∙ names-next p (λ f. fun_sig_of f.value) appear_fun_sig c.loop-functor.yielded c.in-Some.field-0-0 c.in-Some.functor (map name_of c.args.seen.now.keys) _ (taken ++ given)
    c.loop-functor.invariant
    (λ i. appear_env (env_of ((c.deref-in-loop-functor.ensures ∙ ap (λ f. f.argument.env.value) c.deref.ensures) i))
    ++ appear_env (env_of ((c.deref-in-loop-functor-3.ensures ∙ ap (λ f. f.result.env.value) c.deref-in-loop-functor-2.ensures) i)))
