use Rattle.std.proofs.Common.{Ok, ap, sym, subst, ◌∙◌, Bor, Global}
use Rattle.std.specs.declared.rc.Rc.{Rc}
use Rattle.sml_core_rules.specs.Objects.{find_structure, structures}
use Rattle.sml_bases.specs.Views.{env_of}
use Rattle.sml_lex.specs.declared.fault.Code.TheVariants.{E3}
use Rattle.sml_tree.specs.Views.{ident_of, long_of}
use Rattle.sml_rules.specs.Lookups.{entry}
use Rattle.sml_core_rules.specs.Answers.{need}
use Rattle.sml_core_rules.specs.Lookups.{structure_at}
use Rattle.sml_bases.specs.declared.objects.Env.{Env}
use Rattle.sml_types.specs.Answered.{LeadsTo}
use Rattle.sml_types.proofs.Entries.{structure-read}
use Rattle.sml_types.proofs.Paths.{answer-found, answer-nowhere, structure-short, structure-long, structure-nowhere}
use Rattle.sml_types.proofs.scope.structure_at.Goals as goal

pub returns-in-Ok-None : goal.returns-in-Ok-None
returns-in-Ok-None g c = λ C tells.
    let x = c.args.long.now in
    answer-found (λ (e : Bor (Rc Env Global)). env_of e.now.value) E3 x.place (long_of x) c.structure.result c.found.result _
    (structure-short x.place C (long_of x) (subst (λ o. LeadsTo C x.place (long_of x).path (Ok o)) c.in-Ok-None.field-0-is (c.in-Ok-None.ensures C tells)) ∙ ap (λ o. need E3 x.place (long_of x) (entry o)) (sym (tells.structures_are (ident_of x.last) _ c.structure.ensures)))
    c.found.ensures.there c.found.ensures.not_there

pub returns-in-Ok-Some : goal.returns-in-Ok-Some
returns-in-Ok-Some g c = λ C tells.
    let x = c.args.long.now in
    answer-found (λ (e : Bor (Rc Env Global)). env_of e.now.value) E3 x.place (long_of x) c.get.result c.found-in-Ok-Some.result _
    (structure-long x.place C (env_of c.in-Ok-Some.env.now.value) (long_of x) (subst (λ o. LeadsTo C x.place (long_of x).path (Ok o)) c.in-Ok-Some.field-0-is (c.in-Ok-Some.ensures C tells))
    ∙ ap (λ o. need E3 x.place (long_of x) (entry o)) (sym (structure-read c.deref.result.now x.last c.get.result c.get.ensures.value ∙ ap (λ (e : Env). find_structure (ident_of x.last) (structures (env_of e))) c.deref.ensures)))
    c.found-in-Ok-Some.ensures.there c.found-in-Ok-Some.ensures.not_there

pub returns-in-Err : goal.returns-in-Err
returns-in-Err g c = λ C tells.
    let x = c.args.long.now in
    answer-nowhere (λ (e : Bor (Rc Env Global)). env_of e.now.value) E3 x.place (long_of x) C (structure_at C (long_of x)) c.in-Err.fault (structure-nowhere C (long_of x)) (c.in-Err.ensures C tells)
