use Rattle.std.proofs.Common.{Box, Global, Option, Ok, Err, inl, inr, ap, subst, sym, ◌∙◌}
use Rattle.std.specs.Option.{option_map}
use Rattle.sml_tree.specs.TypeViews.{name_of, ty_of}
use Rattle.sml_tree.specs.declared.types.Ty.{Ty}
use Rattle.sml_objects.specs.Views.{type_of}
use Rattle.sml_types.specs.declared.fault.CoreFault.TheVariants as F
use Rattle.sml_core.proofs.Binding.{binds-memory, bound-last}
use Rattle.sml_core.proofs.Layered.{Layers, layered-again, layered-alone, layered-constructor, layered-read, layered-unread}
use Rattle.sml_core.proofs.Sequences.{by-err}
use Rattle.sml_core.specs.Patterns.{BindsType, ReadsConstraint}
use Rattle.sml_core.proofs.context.Context.layered.Goals as goal
use Rattle.sml_core.proofs.context.Context.layered.Goals.{else-not-variables-via-then-not-variables+else-is_constructor, else-not-variables-via-else-not-variables}

pub returns-then-is_constructor-clause-binds : goal.returns-then-is_constructor-clause-binds
returns-then-is_constructor-clause-binds c =
    let old = c.args.self.now in
    let vars = c.args.variables.now in
    layered-constructor old old vars vars (name_of c.args.name.now) (option_map (λ (t : Box Ty Global). ty_of t.value) c.args.ty.now) c.plain_fault.result c.if-not-variables.true
    (λ C means. sym c.if-is_constructor.true ∙ (c.is_constructor.ensures ∙ c.status.ensures C means)) c.plain_fault.ensures

pub returns-in_err-first_in-in-Some-clause-binds : goal.returns-in_err-first_in-in-Some-clause-binds
returns-in_err-first_in-in-Some-clause-binds c =
    let old = c.args.self.now in
    let vars = c.args.variables.now in
    let x = name_of c.args.name.now in
    let f = c.in_err-first_in-in-Some.field-0.0 in
    by-err (Layers old old vars vars x (option_map (λ (t : Box Ty Global). ty_of t.value) c.args.ty.now)) c.from_residual.result f c.from_residual.ensures.1
    (subst (λ (o : Option (Box Ty Global)). Layers old old vars vars x (option_map (λ t. ty_of t.value) o) (Err f)) (sym c.in-Some.is)
    (layered-again old old vars vars x
    (elim c.else-not-variables.branch [
      | else-not-variables-via-then-not-variables+else-is_constructor w ↦ inr (w.if-not-variables.true, λ C means. sym w.if-is_constructor.false ∙ (w.is_constructor.ensures ∙ w.status.ensures C means))
      | else-not-variables-via-else-not-variables w ↦ inl w.if-not-variables.false
    ]) (ty_of c.in-Some.ty.value) f c.in_err-first_in-in-Some.ensures.again.0 c.in_err-first_in-in-Some.ensures.again.1))

pub returns-in_err-ty-in-Some-clause-binds : goal.returns-in_err-ty-in-Some-clause-binds
returns-in_err-ty-in-Some-clause-binds c =
    let old = c.args.self.now in
    let new = c.ty.new.self in
    let vars = c.args.variables.now in
    let x = name_of c.args.name.now in
    let f = c.in_err-ty-in-Some.field-0.0 in
    by-err (Layers old new vars vars x (option_map (λ (t : Box Ty Global). ty_of t.value) c.args.ty.now)) c.from_residual-in_err-ty-in-Some.result f c.from_residual-in_err-ty-in-Some.ensures.1
    (subst (λ (o : Option (Box Ty Global)). Layers old new vars vars x (option_map (λ t. ty_of t.value) o) (Err f)) (sym c.in-Some.is)
    (layered-unread old new vars vars x
    (elim c.else-not-variables.branch [
      | else-not-variables-via-then-not-variables+else-is_constructor w ↦ inr (w.if-not-variables.true, λ C means. sym w.if-is_constructor.false ∙ (w.is_constructor.ensures ∙ w.status.ensures C means))
      | else-not-variables-via-else-not-variables w ↦ inl w.if-not-variables.false
    ]) (ty_of c.in-Some.ty.value) c.in_ok-first_in-in-Some.ensures.first f
    (subst (λ t. ReadsConstraint old (ty_of t) new (Err f)) c.deref.ensures c.in_err-ty-in-Some.ensures)))

pub returns-in_err-clone-in-Some-clause-binds : goal.returns-in_err-clone-in-Some-clause-binds
returns-in_err-clone-in-Some-clause-binds c =
    by-err (BindsType c.args.self.now c.args.variables.now _ c.ty.new.self _) c.from_residual-in_err-clone-in-Some.result F.Memory c.from_residual-in_err-clone-in-Some.ensures.1
    (binds-memory c.args.self.now c.ty.new.self c.args.variables.now _ _)

pub returns-in_err-clone-in-Some-2-clause-binds : goal.returns-in_err-clone-in-Some-2-clause-binds
returns-in_err-clone-in-Some-2-clause-binds c =
    by-err (BindsType c.args.self.now c.args.variables.now _ c.ty.new.self _) c.from_residual-in_err-clone-in-Some-2.result F.Memory c.from_residual-in_err-clone-in-Some-2.ensures.1
    (binds-memory c.args.self.now c.ty.new.self c.args.variables.now _ _)

pub returns-in_err-insert-in-Some-clause-binds : goal.returns-in_err-insert-in-Some-clause-binds
returns-in_err-insert-in-Some-clause-binds c =
    by-err (BindsType c.args.self.now c.args.variables.now _ c.ty.new.self _) c.from_residual-in_err-insert-in-Some.result F.Memory c.from_residual-in_err-insert-in-Some.ensures.1
    (binds-memory c.args.self.now c.ty.new.self c.args.variables.now _ _)

pub returns-in-None-clause-binds : goal.returns-in-None-clause-binds
returns-in-None-clause-binds c =
    let old = c.args.self.now in
    let new = c.variable.new.self in
    let vars = c.args.variables.now in
    let after = c.variable.new.variables in
    let x = name_of c.args.name.now in
    subst (λ (o : Option (Box Ty Global)). Layers old new vars after x (option_map (λ t. ty_of t.value) o) c.variable.result) (sym c.in-None.is)
    (layered-alone old new vars after x
    (elim c.else-not-variables.branch [
      | else-not-variables-via-then-not-variables+else-is_constructor w ↦ inr (w.if-not-variables.true, λ C means. sym w.if-is_constructor.false ∙ (w.is_constructor.ensures ∙ w.status.ensures C means))
      | else-not-variables-via-else-not-variables w ↦ inl w.if-not-variables.false
    ]) c.variable.result c.variable.ensures.binds)

pub returns-in_ok-insert-in-Some-clause-binds : goal.returns-in_ok-insert-in-Some-clause-binds
returns-in_ok-insert-in-Some-clause-binds c =
    let old = c.args.self.now in
    let new = c.ty.new.self in
    let vars = c.args.variables.now in
    let after = record vars { types = c.insert.new.self } in
    let x = name_of c.args.name.now in
    let t = c.in_ok-ty-in-Some.ty in
    let first = c.in_ok-first_in-in-Some.ensures.first in
    subst (λ (o : Option (Box Ty Global)). Layers old new vars after x (option_map (λ t. ty_of t.value) o) (Ok t)) (sym c.in-Some.is)
    (layered-read old new vars after x
    (elim c.else-not-variables.branch [
      | else-not-variables-via-then-not-variables+else-is_constructor w ↦ inr (w.if-not-variables.true, λ C means. sym w.if-is_constructor.false ∙ (w.is_constructor.ensures ∙ w.status.ensures C means))
      | else-not-variables-via-else-not-variables w ↦ inl w.if-not-variables.false
    ]) (ty_of c.in-Some.ty.value) first t
    (subst (λ u. ReadsConstraint old (ty_of u) new (Ok t)) c.deref.ensures c.in_ok-ty-in-Some.ensures)
    (bound-last vars after c.in_ok-clone-in-Some.field-0 c.in_ok-clone-in-Some-2.field-0 x.id (type_of t.value) first c.in_ok-insert-in-Some.ensures.entries
    (ap (λ v. v.items) c.in_ok-clone-in-Some.ensures.cases) (ap type_of c.in_ok-clone-in-Some-2.ensures.cases)))
