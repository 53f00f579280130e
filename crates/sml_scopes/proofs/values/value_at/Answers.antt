use Rattle.std.proofs.Common.{Ok, ap, subst, sym, ◌∙◌}
use Rattle.std.specs.Option.{option_map}
use Rattle.sml_tree.specs.Views.{ident_of, long_of}
use Rattle.sml_objects.specs.Maps.{lookup}
use Rattle.sml_objects.proofs.EnvViews.{map-copied}
use Rattle.sml_rules.specs.Lookups.{found}
use Rattle.sml_core_rules.specs.Objects as O
use Rattle.sml_bases.specs.Views.{env_of, value_of}
use Rattle.sml_bases.specs.declared.objects.Env.TheViews.{out-Env}
use Rattle.sml_bases.proofs.EnvViews.{env_of-out}
use Rattle.sml_types.specs.Answered.{LeadsTo}
use Rattle.sml_scopes.proofs.Stored.{stored-seen}
use Rattle.sml_scopes.proofs.Finding.{finds-long, finds-nowhere, finds-short, scopes-tell}
use Rattle.sml_scopes.proofs.values.value_at.Goals as goal

pub returns-in-Ok-None : goal.returns-in-Ok-None
returns-in-Ok-None c = λ C m.
    finds-short C c.args.long.now.place (long_of c.args.long.now) c.value.result (subst (λ o. LeadsTo C c.args.long.now.place (long_of c.args.long.now).path (Ok o)) c.in-Ok-None.field-0-is (c.in-Ok-None.ensures C (scopes-tell c.args.scopes.now C m))) (c.value.ensures ∙ m.values_are (ident_of c.args.long.now.last))

pub returns-in-Ok-Some : goal.returns-in-Ok-Some
returns-in-Ok-Some c = λ C m.
    let e = c.deref.result.now in
    finds-long C (env_of e) c.args.long.now.place (long_of c.args.long.now) c.get.result (subst (λ o. LeadsTo C c.args.long.now.place (long_of c.args.long.now).path (Ok o)) c.in-Ok-Some.field-0-is (c.in-Ok-Some.ensures C (scopes-tell c.args.scopes.now C m)) ∙ ap (λ u. found (env_of u)) (sym c.deref.ensures))
    (map-copied value_of c.get.result ∙ ap (option_map value_of) c.get.ensures.value ∙ stored-seen value_of (ident_of c.args.long.now.last) (out-Env e).values.entries
    ∙ ap (λ E. lookup (ident_of c.args.long.now.last) (O.values E)) (sym (env_of-out e)))

pub returns-in-Err : goal.returns-in-Err
returns-in-Err c = λ C m.
    finds-nowhere C c.args.long.now.place (long_of c.args.long.now) c.in-Err.fault (c.in-Err.ensures C (scopes-tell c.args.scopes.now C m))
