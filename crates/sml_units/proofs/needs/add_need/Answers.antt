use Rattle.std.proofs.Common.{ap, refl, sym, subst, ◌∙◌, ◌≡◌, IfSome}
use Rattle.std.proofs.lemmas.Option.{slice_get_past, slice_get_read}
use Rattle.std.specs.Option.{is_some}
use Rattle.sml_objects.specs.Objects.{extend_env}
use Rattle.sml_objects.specs.Views.{env_of}
use Rattle.sml_units.specs.Runs.{export_at}
use Rattle.sml_units.proofs.Replying.{onto_nothing}
use Rattle.sml_units.proofs.Several.{kept_none, kept_at}
use Rattle.sml_units.proofs.needs.add_need.Goals as goal

pub returns-in_default-clause-is : goal.returns-in_default-clause-is
returns-in_default-clause-is c = λ fs Ss kept. sym (kept_none fs Ss c.args.exports.now c.args.need kept (slice_get_past c.args.exports.now c.args.need c.in_default.ensures.lookup.3)).0

pub returns-in_default-clause-env : goal.returns-in_default-clause-env
returns-in_default-clause-env c = λ fs Ss kept is.
    let E = env_of c.args.basis.now.env in
    sym (ap (λ S. extend_env E S.body) (kept_none fs Ss c.args.exports.now c.args.need kept (slice_get_past c.args.exports.now c.args.need c.in_default.ensures.lookup.3)).1 ∙ onto_nothing E)

pub returns-in_default-specified-clause-is : goal.returns-in_default-specified-clause-is
returns-in_default-specified-clause-is c = λ fs Ss kept.
    let k = kept_at fs Ss c.args.exports.now c.args.need c.in-Some.needed.now kept (slice_get_read c.args.exports.now _ c.args.need c.in-Some.needed.now refl c.in-Some.ensures.lookup.3.0 c.in-Some.ensures.lookup.1) in
    sym (ap is_some c.in_default-specified.is) ∙ k.is_there

pub returns-clause-is : goal.returns-clause-is
returns-clause-is c = λ fs Ss kept.
    let k = kept_at fs Ss c.args.exports.now c.args.need c.in-Some.needed.now kept (slice_get_read c.args.exports.now _ c.args.need c.in-Some.needed.now refl c.in-Some.ensures.lookup.3.0 c.in-Some.ensures.lookup.1) in
    sym (ap is_some c.in-Some-specified.is) ∙ k.is_there

pub returns-clause-env : goal.returns-clause-env
returns-clause-env c = λ fs Ss kept is.
    let k = kept_at fs Ss c.args.exports.now c.args.need c.in-Some.needed.now kept (slice_get_read c.args.exports.now _ c.args.need c.in-Some.needed.now refl c.in-Some.ensures.lookup.3.0 c.in-Some.ensures.lookup.1) in
    let E = subst (λ o. IfSome o (λ e. env_of e.value ≡ (export_at Ss c.args.need).body)) c.in-Some-specified.is k.env_is in
    c.in_ok-add.ensures.env ∙ ap (extend_env (env_of c.args.basis.now.env)) (c.in_ok-exported.ensures.env ∙ ap env_of c.deref.ensures ∙ E)
