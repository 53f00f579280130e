use Rattle.std.proofs.Common.{map, [], ◌∷◌, subst, ap, sym, ◌∙◌}
use Rattle.std.proofs.lemmas.List.{map-append}
use Rattle.sml_core_rules.specs.Objects.{extend}
use Rattle.sml_bases.specs.Views.{env_of}
use Rattle.sml_scopes.specs.CodeScopes.{IsOrdered, opened_in}
use Rattle.sml_scopes.specs.CodeTables.{bound}
use Rattle.sml_scopes.specs.Means.{AreMeant}
use Rattle.sml_scopes.proofs.Meanings.{structure-opened}
use Rattle.sml_scopes.proofs.scopes.Scopes.open.Goals as goal

pub returns-in_ok-push-clause-bound : goal.returns-in_ok-push-clause-bound
returns-in_ok-push-clause-bound c = λ C m.
    let s = c.args.self.now in
    let longer = sym (ap (λ l. map (λ e. e.value) l) c.in_ok-push.ensures.items ∙ map-append (λ e. e.value) s.opened.items (c.args.structure ∷ [])) in
    subst (λ o. AreMeant s.basis.now o (bound s.values) (bound s.types) (bound s.structures) (extend C (env_of c.args.structure.value))) longer
    (structure-opened s.basis.now (opened_in s) (bound s.values) (bound s.types) (bound s.structures) C c.args.structure.value (subst IsOrdered c.deref.ensures c.has_entries.ensures.ordered) m)
