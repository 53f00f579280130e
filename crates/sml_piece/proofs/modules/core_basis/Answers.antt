use Rattle.std.proofs.Common.{◌≡◌, refl, [], map, ap, sym, ◌∙◌, subst}
use Rattle.sml_objects.specs.Objects.{empty_env, extend_env}
use Rattle.sml_objects.specs.Views.{env_of, name_of, sig_of}
use Rattle.sml_rules.specs.Readings.{read_dec}
use Rattle.sml_piece.specs.declared.expressions.Component.{Component}
use Rattle.sml_piece.specs.declared.expressions.Component.TheVariants.{Value, «Type»}
use Rattle.sml_piece.specs.Elaborated.{Shows, no_local, component_of}
use Rattle.sml_piece.proofs.Contexts.{shows_outer}
use Rattle.sml_piece.proofs.Answering.{first_ends, then_any, gives_so}
use Rattle.sml_piece.proofs.modules.core_basis.Goals as goal

alone : (c : Component) → extend_env empty_env (component_of c) ≡ component_of c
alone (Value x σ) = refl
alone («Type» x σ) = refl

pub returns-in-Err-clause-answer : goal.returns-in-Err-clause-answer
unfolding read_dec
returns-in-Err-clause-answer c = λ B same.
    let shows = subst (λ E. Shows no_local (env_of c.args.basis.now.env) E B.body) (sym c.new-inner.ensures) (subst (Shows no_local _ empty_env) (sym same) (shows_outer (env_of c.args.basis.now.env))) in
    first_ends component_of sig_of _ _ c.in-Err.fault (c.in-Err.ensures B.body shows)

pub returns-in-Ok-put_into-clause-answer : goal.returns-in-Ok-put_into-clause-answer
unfolding read_dec
returns-in-Ok-put_into-clause-answer c = λ B same.
    let shows = subst (λ E. Shows no_local (env_of c.args.basis.now.env) E B.body) (sym c.new-inner.ensures) (subst (Shows no_local _ empty_env) (sym same) (shows_outer (env_of c.args.basis.now.env))) in
    let G = component_of c.in-Ok.component in
    let body : env_of c.put_into.new.env ≡ G = c.in-Ok-put_into.ensures ∙ ap (λ E. extend_env E G) c.new-env.ensures ∙ alone c.in-Ok.component in
    then_any _ _ G _ (c.in-Ok.ensures B.body shows)
    (gives_so _ _ (ap (λ ns. record { names = map name_of ns; body = env_of c.put_into.new.env }) c.new.ensures.items ∙ ap (λ E. record { names = []; body = E }) body))
