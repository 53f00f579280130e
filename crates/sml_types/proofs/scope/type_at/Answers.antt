use Rattle.std.proofs.Common.{Ok, ap, sym, subst, ◌∙◌, Bor}
use Rattle.sml_objects.specs.Maps.{lookup}
use Rattle.sml_core_rules.specs.Objects.{types}
use Rattle.sml_bases.specs.Views.{env_of, ty_str_of}
use Rattle.sml_bases.specs.declared.objects.TypeStr.{TypeStr}
use Rattle.sml_lex.specs.declared.fault.Code.TheVariants.{E2}
use Rattle.sml_tree.specs.Views.{ident_of, long_of}
use Rattle.sml_rules.specs.Lookups.{entry}
use Rattle.sml_core_rules.specs.Answers.{need}
use Rattle.sml_core_rules.specs.Lookups.{type_at}
use Rattle.sml_bases.specs.declared.objects.Env.{Env}
use Rattle.sml_types.specs.Answered.{LeadsTo}
use Rattle.sml_types.proofs.Entries.{type-read}
use Rattle.sml_types.proofs.Paths.{answer-found, answer-nowhere, type-short, type-long, type-nowhere}
use Rattle.sml_types.proofs.scope.type_at.Goals as goal

pub returns-in-Ok-None : goal.returns-in-Ok-None
returns-in-Ok-None g c = λ C tells.
    let x = c.args.long.now in
    answer-found (λ (t : Bor TypeStr). ty_str_of t.now) E2 x.place (long_of x) c.type_str.result c.found.result _
    (ap (need E2 x.place (long_of x)) (type-short C (long_of x) (subst (λ o. LeadsTo C x.place (long_of x).path (Ok o)) c.in-Ok-None.field-0-is (c.in-Ok-None.ensures C tells)) ∙ ap entry (sym (tells.types_are (ident_of x.last) _ c.type_str.ensures))))
    c.found.ensures.there c.found.ensures.not_there

pub returns-in-Ok-Some : goal.returns-in-Ok-Some
returns-in-Ok-Some g c = λ C tells.
    let x = c.args.long.now in
    answer-found (λ (t : Bor TypeStr). ty_str_of t.now) E2 x.place (long_of x) c.get.result c.found-in-Ok-Some.result _
    (ap (need E2 x.place (long_of x)) (type-long C (env_of c.in-Ok-Some.env.now.value) (long_of x) (subst (λ o. LeadsTo C x.place (long_of x).path (Ok o)) c.in-Ok-Some.field-0-is (c.in-Ok-Some.ensures C tells))
    ∙ ap entry (sym (type-read c.deref.result.now x.last c.get.result c.get.ensures.value ∙ ap (λ (e : Env). lookup (ident_of x.last) (types (env_of e))) c.deref.ensures))))
    c.found-in-Ok-Some.ensures.there c.found-in-Ok-Some.ensures.not_there

pub returns-in-Err : goal.returns-in-Err
returns-in-Err g c = λ C tells.
    let x = c.args.long.now in
    answer-nowhere (λ (t : Bor TypeStr). ty_str_of t.now) E2 x.place (long_of x) C (type_at C (long_of x)) c.in-Err.fault (type-nowhere C (long_of x)) (c.in-Err.ensures C tells)
