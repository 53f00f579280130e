use Rattle.std.proofs.Common.{ap, subst, sym, refl, ◌∙◌}
use Rattle.std.proofs.lemmas.Map.Iter.{rest_all, rest_more}
use Rattle.sml_tree.specs.Views.{ident_of}
use Rattle.sml_objects.specs.Views.{entries_of}
use Rattle.sml_bases.specs.Views.{value_of}
use Rattle.sml_core_rules.specs.Objects.{of_values}
use Rattle.sml_core.specs.declared.context.Context.{Context}
use Rattle.sml_core.proofs.Entering.{IsEntering, all-entered, none-entered, value-entered}
use Rattle.sml_core.proofs.context.Context.bind_values.Goals as goal

pub loop-name-init : goal.loop-name-init
loop-name-init c =
    let s = c.args.self.now.scopes in
    record {
      entering = subst (λ es. IsEntering s s (of_values (entries_of value_of c.args.values.entries)) (of_values (entries_of value_of es))) (sym c.into_iter-name-iterator.ensures.into_iter_gives.0) (none-entered s (of_values (entries_of value_of c.args.values.entries)));
      same = refl;
    }

pub loop-name-preserved : goal.loop-name-preserved
loop-name-preserved c =
    let old = c.args.self.now.scopes in
    let now = c.loop-name.self.scopes in
    let new = c.bind_value.new.self in
    let first = rest_more (λ x. x) c.loop-name.name-iterator c.next.new.self c.next.result (c.in-Some.name, c.in-Some.value) c.in-Some.is c.next.ensures.steps in
    record {
      entering = value-entered old now new.scopes (of_values (entries_of value_of c.args.values.entries)) c.in_ok-bind_value.ensures.around (ident_of c.in-Some.name) (value_of c.in-Some.value) (entries_of value_of c.next.new.self) c.in_ok-bind_value.ensures.bound
          (subst (λ es. IsEntering old now (of_values (entries_of value_of c.args.values.entries)) (of_values (entries_of value_of es))) first c.loop-name.invariant.entering);
      same = c.bind_value.ensures.same ∙ ap (λ (k : Context). record k { scopes = new.scopes; exports = new.exports }) c.loop-name.invariant.same;
    }

pub returns-in_err-bind_value-clause-same : goal.returns-in_err-bind_value-clause-same
returns-in_err-bind_value-clause-same c = let new = c.bind_value.new.self in c.bind_value.ensures.same ∙ ap (λ (k : Context). record k { scopes = new.scopes; exports = new.exports }) c.loop-name.invariant.same

pub returns-clause-bound : goal.returns-clause-bound
returns-clause-bound c =
    let old = c.args.self.now.scopes in
    let now = c.loop-name.self.scopes in
    all-entered old now (of_values (entries_of value_of c.args.values.entries))
    (subst (λ es. IsEntering old now (of_values (entries_of value_of c.args.values.entries)) (of_values (entries_of value_of es))) (rest_all (λ x. x) c.loop-name.name-iterator c.next.new.self c.next.result c.in-None.is c.next.ensures.steps) c.loop-name.invariant.entering)

pub returns-clause-around : goal.returns-clause-around
returns-clause-around c = c.loop-name.invariant.entering.marks

pub returns-clause-same : goal.returns-clause-same
returns-clause-same c = c.loop-name.invariant.same
