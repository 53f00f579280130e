use Rattle.std.proofs.Common.{None, map, subst, sym}
use Rattle.sml_tree.specs.BindingViews.{typ_bind_of}
use Rattle.sml_types.specs.Sides.{IsSideOf}
use Rattle.sml_types.specs.declared.fault.CoreFault.TheVariants as F
use Rattle.sml_scopes.proofs.Finding.{scopes-tell}
use Rattle.sml_core.specs.Declarations.{DeclaresTypes}
use Rattle.sml_core.proofs.Declaring.{declares-memory, types-declared, types-refused}
use Rattle.sml_core.proofs.Sequences.{by-err}
use Rattle.sml_core.proofs.context.Context.type_dec.Goals as goal

pub returns-in_err-env : goal.returns-in_err-env
returns-in_err-env c =
    let old = c.args.self.now in
    let bs = map typ_bind_of c.args.binds.now in
    let f = c.in_err-env.field-0.0 in
    by-err (DeclaresTypes old c.args.place bs old) c.from_residual.result f c.from_residual.ensures.1
    (types-refused old old c.args.place bs f (λ spelt apart C m. c.in_err-env.ensures C (scopes-tell old.scopes C m) (λ x o e. subst (IsSideOf C None) (sym e) tt) spelt apart))

pub returns-in_err-bind_env : goal.returns-in_err-bind_env
returns-in_err-bind_env c =
    let old = c.args.self.now in
    let bs = map typ_bind_of c.args.binds.now in
    by-err (DeclaresTypes old c.args.place bs c.bind_env.new.self) c.from_residual-in_err-bind_env.result F.Memory c.from_residual-in_err-bind_env.ensures.1
    (declares-memory old c.bind_env.new.self c.args.place bs)

pub returns : goal.returns
returns c =
    let old = c.args.self.now in
    let bs = map typ_bind_of c.args.binds.now in
    let new = c.bind_env.new.self in
    types-declared old new c.args.place bs c.in_ok-env.env (λ spelt apart C m. c.in_ok-env.ensures C (scopes-tell old.scopes C m) (λ x o e. subst (IsSideOf C None) (sym e) tt) spelt apart)
    c.in_ok-bind_env.ensures.bound c.in_ok-bind_env.ensures.around c.bind_env.ensures.same c.bind_env.ensures.wanted
