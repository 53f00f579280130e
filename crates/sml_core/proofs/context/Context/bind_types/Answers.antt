use Rattle.std.proofs.Common.{ap, subst, sym, refl, ◌∙◌}
use Rattle.std.proofs.lemmas.Map.Iter.{rest_all, rest_more}
use Rattle.sml_tree.specs.Views.{ident_of}
use Rattle.sml_objects.specs.Views.{entries_of}
use Rattle.sml_bases.specs.Views.{ty_str_of}
use Rattle.sml_core_rules.specs.Objects.{of_types}
use Rattle.sml_core.specs.declared.context.Context.{Context}
use Rattle.sml_core.proofs.Entering.{IsEntering, all-entered, none-entered, type-entered}
use Rattle.sml_core.proofs.context.Context.bind_types.Goals as goal

pub loop-name-init : goal.loop-name-init
loop-name-init c =
    let s = c.args.self.now.scopes in
    record {
      entering = subst (λ es. IsEntering s s (of_types (entries_of ty_str_of c.args.types.entries)) (of_types (entries_of ty_str_of es))) (sym c.into_iter-name-iterator.ensures.into_iter_gives.0) (none-entered s (of_types (entries_of ty_str_of c.args.types.entries)));
      same = refl;
      wanted = refl;
    }

pub loop-name-preserved : goal.loop-name-preserved
loop-name-preserved c =
    let old = c.args.self.now.scopes in
    let now = c.loop-name.self.scopes in
    let new = c.bind_type.new.self in
    let first = rest_more (λ x. x) c.loop-name.name-iterator c.next.new.self c.next.result (c.in-Some.name, c.in-Some.ty) c.in-Some.is c.next.ensures.steps in
    record {
      entering = type-entered old now new.scopes (of_types (entries_of ty_str_of c.args.types.entries)) c.in_ok-bind_type.ensures.around (ident_of c.in-Some.name) (ty_str_of c.in-Some.ty) (entries_of ty_str_of c.next.new.self) c.in_ok-bind_type.ensures.bound
          (subst (λ es. IsEntering old now (of_types (entries_of ty_str_of c.args.types.entries)) (of_types (entries_of ty_str_of es))) first c.loop-name.invariant.entering);
      same = c.bind_type.ensures.same ∙ ap (λ (k : Context). record k { scopes = new.scopes; exports = new.exports; recorder = new.recorder }) c.loop-name.invariant.same;
      wanted = c.bind_type.ensures.wanted ∙ c.loop-name.invariant.wanted;
    }

pub returns-in_err-bind_type-clause-same : goal.returns-in_err-bind_type-clause-same
returns-in_err-bind_type-clause-same c = let new = c.bind_type.new.self in c.bind_type.ensures.same ∙ ap (λ (k : Context). record k { scopes = new.scopes; exports = new.exports; recorder = new.recorder }) c.loop-name.invariant.same

pub returns-clause-bound : goal.returns-clause-bound
returns-clause-bound c =
    let old = c.args.self.now.scopes in
    let now = c.loop-name.self.scopes in
    all-entered old now (of_types (entries_of ty_str_of c.args.types.entries))
    (subst (λ es. IsEntering old now (of_types (entries_of ty_str_of c.args.types.entries)) (of_types (entries_of ty_str_of es))) (rest_all (λ x. x) c.loop-name.name-iterator c.next.new.self c.next.result c.in-None.is c.next.ensures.steps) c.loop-name.invariant.entering)

pub returns-clause-around : goal.returns-clause-around
returns-clause-around c = c.loop-name.invariant.entering.marks

pub returns-clause-same : goal.returns-clause-same
returns-clause-same c = c.loop-name.invariant.same
