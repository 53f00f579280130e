use Rattle.std.proofs.Common.{◌≡◌, List, [], ◌++◌, map, ◌∙◌}
use Rattle.sml_tree.specs.ExpressionViews.{bind_of, binds_of}
use Rattle.sml_tree.specs.Trees.{Id}
use Rattle.sml_core_rules.specs.Closing.{unguarded}
use Rattle.sml_closing.specs.Gathered.{ids_of, with_all}
use Rattle.sml_types.specs.declared.fault.CoreFault.TheVariants as F
use Rattle.sml_core.specs.Begun.{BeginsValues}
use Rattle.sml_core.specs.declared.values.Declaration.{Declaration}
use Rattle.sml_core.proofs.Gathered.{gathered, idents}
use Rattle.sml_core.proofs.Scoping.{begin-memory, begin-stopped, values-begun}
use Rattle.sml_core.proofs.Sequences.{by-err}
use Rattle.sml_core.proofs.context.Context.begin_values.Goals as goal

pub returns-in_err-found : goal.returns-in_err-found
returns-in_err-found c = by-err (BeginsValues c.args.self.now _ c.args.self.now) c.from_residual.result F.Memory c.from_residual.ensures.1 (begin-memory c.args.self.now c.args.self.now _)

pub returns-in_err-in_binds : goal.returns-in_err-in_binds
returns-in_err-in_binds c =
    by-err (BeginsValues c.args.self.now _ c.args.self.now) c.from_residual-in_err-in_binds.result F.Memory c.from_residual-in_err-in_binds.ensures.1 (begin-memory c.args.self.now c.args.self.now _)

pub returns-in_err-in_binds-2 : goal.returns-in_err-in_binds-2
returns-in_err-in_binds-2 c =
    by-err (BeginsValues c.args.self.now _ c.args.self.now) c.from_residual-in_err-in_binds-2.result F.Memory c.from_residual-in_err-in_binds-2.ensures.1 (begin-memory c.args.self.now c.args.self.now _)

pub returns-in_err-scoped : goal.returns-in_err-scoped
returns-in_err-scoped c =
    let xs : List Id = idents c.args.names.now ++ (unguarded (binds_of (map bind_of c.args.binds.now)) ++ unguarded (binds_of (map bind_of c.args.recursive.now))) in
    by-err (BeginsValues c.args.self.now xs c.scope_all.new.self) c.from_residual-in_err-scoped.result c.in_err-scoped.field-0.0 c.from_residual-in_err-scoped.ensures.1
    (begin-stopped c.args.self.now c.scope_all.new.self (ids_of c.in_binds-2.new.found.keys) xs c.in_err-scoped.field-0.0 c.in_err-scoped.ensures)

pub returns : goal.returns
returns c =
    let xs : List Id = idents c.args.names.now ++ (unguarded (binds_of (map bind_of c.args.binds.now)) ++ unguarded (binds_of (map bind_of c.args.recursive.now))) in
    let all = ids_of c.in_binds-2.new.found.keys in
    let e : all ≡ with_all [] xs =
    gathered (ids_of c.in_ok-found.found.keys) (ids_of c.in_binds.new.found.keys) all (idents c.args.names.now) (unguarded (binds_of (map bind_of c.args.binds.now)))
    (unguarded (binds_of (map bind_of c.args.recursive.now))) c.in_ok-found.ensures c.in_ok-in_binds.ensures c.in_ok-in_binds-2.ensures in
    let d : Declaration = record {
      unknowns = c.unknowns-unknowns.result;
      rows = c.len-rows.result;
      overloaded = c.len-overloaded.result;
      explicit = c.count-explicit.result;
      scoped = c.in_ok-scoped.scoped;
      variables = c.new.result;
      expansive = c.new-2.result;
    } in
    values-begun c.args.self.now c.scope_all.new.self all xs e d
    (record {
      rows = c.len-rows.ensures ∙ c.args.self.now.rows.ok.0;
      overloaded = c.len-overloaded.ensures ∙ c.args.self.now.overloaded.ok.0;
      explicit = c.count-explicit.ensures;
      none = c.new.ensures.none;
      kind = c.new.ensures.kind;
      expansive = c.new-2.ensures.items;
    })
    c.unknowns-unknowns.ensures c.in_ok-scoped.ensures
