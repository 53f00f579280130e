use Rattle.std.proofs.Common.{Ok, subst}
use Rattle.sml_tree.specs.Views.{long_of}
use Rattle.sml_core_rules.specs.Lookups.{value_at}
use Rattle.sml_scopes.specs.Found.{Finds}
use Rattle.sml_warnings.proofs.Telling.{none_means, some_means, fault_means}
use Rattle.sml_warnings.proofs.matches.meaning.Goals as goal

pub returns-in-Ok-None : goal.returns-in-Ok-None
returns-in-Ok-None c = λ C m.
    none_means c.args.long.now.place (value_at C (long_of c.args.long.now))
    (subst (λ o. Finds c.args.long.now.place (Ok o) (value_at C (long_of c.args.long.now))) c.in-Ok-None.field-0-is (c.in-Ok-None.ensures C m))

pub returns-in-Ok-Some : goal.returns-in-Ok-Some
returns-in-Ok-Some c = λ C m.
    some_means c.args.long.now.place (value_at C (long_of c.args.long.now)) c.in-Ok-Some.value c.meaning_of.result
    (subst (λ o. Finds c.args.long.now.place (Ok o) (value_at C (long_of c.args.long.now))) c.in-Ok-Some.field-0-is (c.in-Ok-Some.ensures C m)) c.meaning_of.ensures

pub returns-in-Err : goal.returns-in-Err
returns-in-Err c = λ C m.
    fault_means c.args.long.now.place (value_at C (long_of c.args.long.now)) c.in-Err.fault (c.in-Err.ensures C m)
