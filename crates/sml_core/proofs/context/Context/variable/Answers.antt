use Rattle.std.proofs.Common.{ap}
use Rattle.sml_tree.specs.Views.{ident_of}
use Rattle.sml_objects.specs.Views.{type_of}
use Rattle.sml_core_rules.specs.Patterns.{bind_variable}
use Rattle.sml_core_rules.specs.Scopes.{run_scope}
use Rattle.sml_types.specs.declared.fault.CoreFault.TheVariants as F
use Rattle.sml_core.proofs.Binding.{binds-memory, bound-last, variable-again, variable-bound, variable-not}
use Rattle.sml_core.proofs.Sequences.{by-err}
use Rattle.sml_core.specs.Answered.{unit_of}
use Rattle.sml_core.specs.Patterns.{BindsType}
use Rattle.sml_core.proofs.context.Context.variable.Goals as goal

pub returns-in_err-first_in-clause-binds : goal.returns-in_err-first_in-clause-binds
returns-in_err-first_in-clause-binds c =
    let x = ident_of c.args.name.now in
    by-err (BindsType c.args.self.now c.args.variables.now (λ r C vs bs. bind_variable (run_scope (unit_of c.args.self.now)) c.args.place x bs) c.args.self.now c.args.variables.now)
    c.from_residual.result c.in_err-first_in.field-0.0 c.from_residual.ensures.1
    (variable-again c.args.self.now c.args.self.now c.args.variables.now c.args.variables.now c.args.place x c.in_err-first_in.field-0.0 c.in_err-first_in.ensures.again.0 c.in_err-first_in.ensures.again.1)

pub returns-in_err-ty-clause-binds : goal.returns-in_err-ty-clause-binds
returns-in_err-ty-clause-binds c =
    let x = ident_of c.args.name.now in
    by-err (BindsType c.args.self.now c.args.variables.now (λ r C vs bs. bind_variable (run_scope (unit_of c.args.self.now)) c.args.place x bs) c.unknown.new.self c.args.variables.now)
    c.from_residual-in_err-ty.result c.in_err-ty.field-0.0 c.from_residual-in_err-ty.ensures.1
    (variable-not c.args.self.now c.unknown.new.self c.args.variables.now c.args.variables.now c.args.place x c.in_ok-first_in.ensures.first c.in_err-ty.field-0.0 c.in_err-ty.ensures)

pub returns-in_err-clone-clause-binds : goal.returns-in_err-clone-clause-binds
returns-in_err-clone-clause-binds c =
    by-err (BindsType c.args.self.now c.args.variables.now _ c.unknown.new.self _) c.from_residual-in_err-clone.result F.Memory c.from_residual-in_err-clone.ensures.1
    (binds-memory c.args.self.now c.unknown.new.self c.args.variables.now _ _)

pub returns-in_err-clone-2-clause-binds : goal.returns-in_err-clone-2-clause-binds
returns-in_err-clone-2-clause-binds c =
    by-err (BindsType c.args.self.now c.args.variables.now _ c.unknown.new.self _) c.from_residual-in_err-clone-2.result F.Memory c.from_residual-in_err-clone-2.ensures.1
    (binds-memory c.args.self.now c.unknown.new.self c.args.variables.now _ _)

pub returns-in_err-insert-clause-binds : goal.returns-in_err-insert-clause-binds
returns-in_err-insert-clause-binds c =
    by-err (BindsType c.args.self.now c.args.variables.now _ c.unknown.new.self _) c.from_residual-in_err-insert.result F.Memory c.from_residual-in_err-insert.ensures.1
    (binds-memory c.args.self.now c.unknown.new.self c.args.variables.now _ _)

pub returns-clause-binds : goal.returns-clause-binds
returns-clause-binds c =
    let x = ident_of c.args.name.now in
    let after = record c.args.variables.now { types = c.insert.new.self } in
    variable-bound c.args.self.now c.unknown.new.self c.args.variables.now after c.args.place x c.in_ok-first_in.ensures.first c.in_ok-ty.ty c.in_ok-ty.ensures
    (bound-last c.args.variables.now after c.in_ok-clone.field-0 c.in_ok-clone-2.field-0 x (type_of c.in_ok-ty.ty.value) c.in_ok-first_in.ensures.first c.in_ok-insert.ensures.entries
    (ap (λ v. v.items) c.in_ok-clone.ensures.cases) (ap type_of c.in_ok-clone-2.ensures.cases))
