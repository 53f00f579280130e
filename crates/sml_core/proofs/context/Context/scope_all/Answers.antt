use Rattle.std.proofs.Common.{[], sym, subst, ◌∙◌}
use Rattle.std.proofs.lemmas.Map.Iter.{rest_all, rest_more}
use Rattle.std.specs.Map.Iter.{deref}
use Rattle.sml_tree.specs.Views.{ident_of}
use Rattle.sml_closing.specs.Gathered.{ids_of}
use Rattle.sml_types.specs.declared.fault.CoreFault.TheVariants as F
use Rattle.sml_core.proofs.Scoping.{IsScoping, all-memory, all-scoped, all-stopped, none-scoped, one-passed, one-scoped}
use Rattle.sml_core.proofs.Sequences.{by-err}
use Rattle.sml_core.specs.Begun.{ScopesAll}
use Rattle.sml_core.proofs.context.Context.scope_all.Goals as goal

pub loop-name-init : goal.loop-name-init
loop-name-init c =
    let old = c.args.self.now in
    let xs = ids_of c.args.names.now.keys in
    subst (λ ks. IsScoping old xs ks (ids_of c.into_iter-name-iterator.result) old) (sym c.new-scoped.ensures.items)
    (subst (λ es. IsScoping old xs [] (ids_of es) old) (sym c.into_iter-name-iterator.ensures.into_iter_gives.0) (none-scoped old xs))

pub returns-in_err-unknown : goal.returns-in_err-unknown
returns-in_err-unknown c =
    let xs = ids_of c.args.names.now.keys in
    by-err (ScopesAll c.args.self.now xs c.scope.new.self) c.from_residual.result c.in_err-unknown.field-0.0 c.from_residual.ensures.1
    (all-stopped c.args.self.now c.loop-name.self c.scope.new.self xs (ident_of c.in-Some.name.now) c.in_err-unknown.field-0.0 c.in_err-unknown.ensures)

pub loop-name-preserved-in-Continue-branch-2 : goal.loop-name-preserved-in-Continue-branch-2
loop-name-preserved-in-Continue-branch-2 c =
    let xs = ids_of c.args.names.now.keys in
    let left = c.next.new.self in
    let first = rest_more deref c.loop-name.name-iterator left c.next.result c.in-Some.name c.in-Some.is c.next.ensures.steps in
    subst (λ ks. IsScoping c.args.self.now xs ks (ids_of left) c.scope.new.self) (sym c.in_ok-push.ensures.items)
    (one-scoped c.args.self.now c.loop-name.self xs (ids_of left) c.loop-name.scoped.items (ident_of c.in-Some.name.now)
    (subst (λ es. IsScoping c.args.self.now xs c.loop-name.scoped.items (ids_of es) c.loop-name.self) first c.loop-name.invariant) c.scope.new.self c.in_ok-unknown.unknown
    (sym c.has.ensures ∙ c.if-not-has.true) c.in_ok-unknown.ensures)

pub returns-in_err-push : goal.returns-in_err-push
returns-in_err-push c =
    by-err (ScopesAll c.args.self.now (ids_of c.args.names.now.keys) c.scope.new.self) c.from_residual-in_err-push.result F.Memory c.from_residual-in_err-push.ensures.1
    (all-memory c.args.self.now c.scope.new.self (ids_of c.args.names.now.keys))

pub loop-name-preserved : goal.loop-name-preserved
loop-name-preserved c =
    let xs = ids_of c.args.names.now.keys in
    let left = c.next.new.self in
    let first = rest_more deref c.loop-name.name-iterator left c.next.result c.in-Some.name c.in-Some.is c.next.ensures.steps in
    one-passed c.args.self.now c.loop-name.self xs (ids_of left) c.loop-name.scoped.items (ident_of c.in-Some.name.now)
    (subst (λ es. IsScoping c.args.self.now xs c.loop-name.scoped.items (ids_of es) c.loop-name.self) first c.loop-name.invariant)
    (sym c.has.ensures ∙ c.if-not-has.false)

pub returns : goal.returns
returns c =
    let xs = ids_of c.args.names.now.keys in
    all-scoped c.args.self.now c.loop-name.self xs c.loop-name.scoped
    (subst (λ es. IsScoping c.args.self.now xs c.loop-name.scoped.items (ids_of es) c.loop-name.self)
    (rest_all deref c.loop-name.name-iterator c.next.new.self c.next.result c.in-None.is c.next.ensures.steps) c.loop-name.invariant)
