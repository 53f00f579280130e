use Rattle.std.proofs.Common.{sym, subst}
use Rattle.sml_objects.specs.Views.{maker_of}
use Rattle.sml_bases.specs.Views.{env_of, sig_of}
use Rattle.sml_envs.specs.Renamed.{made_like}
use Rattle.sml_match.specs.Ascribed.{IsAscribed}
use Rattle.sml_match.proofs.Ascriptions.{opaque, transparent}
use Rattle.sml_match.proofs.ascribe.ascribed.Goals as goal

pub returns-in-Transparent-clause-ascribed : goal.returns-in-Transparent-clause-ascribed
returns-in-Transparent-clause-ascribed c = λ T over known.
    let S = sig_of c.args.sig.now in
    let E = env_of c.args.env.now in
    let ns = made_like (maker_of c.args.new.now.unit) c.args.new.now.next S.names in
    let F = env_of c.in_ok-realised.realised.value in
    subst (λ a. IsAscribed c.args.place E S ns a F) (sym c.in-Transparent.is)
    (transparent c.args.place T E S ns c.realise.result c.in_ok-realisation.realisation F over known c.in_ok-realisation.ensures
    (c.realise.ensures c.args.place) c.in_ok-realised.ensures)

pub returns-clause-ascribed : goal.returns-clause-ascribed
returns-clause-ascribed c = λ T over known.
    let S = sig_of c.args.sig.now in
    let E = env_of c.args.env.now in
    let ns = made_like (maker_of c.args.new.now.unit) c.args.new.now.next S.names in
    let F = env_of c.in_ok-env-in-Opaque.field-0.env.value in
    subst (λ a. IsAscribed c.args.place E S ns a F) (sym c.in-Opaque.is)
    (opaque c.args.place T E S ns c.realise.result c.in_ok-realisation.realisation F over known c.in_ok-realisation.ensures
    (c.realise.ensures c.args.place) c.in_ok-env-in-Opaque.ensures.env)
