use Rattle.std.proofs.Common.{Ok, ap, subst, ◌∙◌}
use Rattle.sml_tree.specs.Views.{long_of}
use Rattle.sml_core_rules.specs.Lookups.{value_at}
use Rattle.sml_scopes.specs.Found.{Finds}
use Rattle.sml_scopes.proofs.Finding.{found-value}
use Rattle.sml_scopes.proofs.values.ScopesStatuses.constructs.Goals as goal

pub returns-then-is_constructor : goal.returns-then-is_constructor
returns-then-is_constructor c = λ C m.
    found-value (long_of c.args.long.now).last (value_at C (long_of c.args.long.now)) c.in-Ok-Some.value.now c.is_constructor.result c.ne.result _ _
    (subst (λ o. Finds c.args.long.now.place (Ok o) (value_at C (long_of c.args.long.now))) c.in-Ok-Some.field-0-is (c.in-Ok-Some.ensures C m))
    c.is_constructor.ensures c.if-is_constructor.true c.ne.ensures (c.as_slice.ensures.value ∙ ap (λ v. v.items) c.deref.ensures) c.as_slice-then-is_constructor.ensures
