use Rattle.std.proofs.Common.{Ok, Err, subst}
use Rattle.sml_tree.specs.TypeViews.{ty_of}
use Rattle.sml_objects.specs.Views.{type_of}
use Rattle.sml_objects.specs.declared.objects.MlType as P
use Rattle.sml_core.proofs.Constraints.{constrained-equal, constrained-unequal, constrained-unread}
use Rattle.sml_core.proofs.Sequences.{by-err}
use Rattle.sml_core.specs.Answered.{Equates}
use Rattle.sml_core.specs.Patterns.{Constrains}
use Rattle.sml_core.proofs.context.Context.constrained.Goals as goal

pub returns-in_err-wanted : goal.returns-in_err-wanted
returns-in_err-wanted c =
    let t = type_of c.args.found.value in
    let ty = ty_of c.args.ty.now in
    by-err (Constrains c.args.self.now c.args.place t ty c.ty.new.self) c.from_residual.result c.in_err-wanted.field-0.0 c.from_residual.ensures.1
    (constrained-unread c.args.self.now c.ty.new.self c.args.place t ty c.in_err-wanted.field-0.0 c.in_err-wanted.ensures)

pub returns-in_err-equal : goal.returns-in_err-equal
returns-in_err-equal c =
    let t = type_of c.args.found.value in
    let ty = ty_of c.args.ty.now in
    let mid = c.ty.new.self in
    let new = c.equal.new.self in
    let f = c.in_err-equal.field-0.0 in
    by-err (Constrains c.args.self.now c.args.place t ty new) c.from_residual-in_err-equal.result f c.from_residual-in_err-equal.ensures.1
    (constrained-unequal c.args.self.now mid c.args.place t ty c.in_ok-wanted.wanted c.in_ok-wanted.ensures new f
    (subst (λ (z : P.MlType × P.MlType). Equates mid c.args.place (type_of z.0) (type_of z.1) new (Err f)) (λ i. (c.deref.ensures i, c.deref-2.ensures i)) c.in_err-equal.ensures))

pub returns : goal.returns
returns c =
    let mid = c.ty.new.self in
    let new = c.equal.new.self in
    constrained-equal c.args.self.now mid c.args.place (type_of c.args.found.value) (ty_of c.args.ty.now) c.in_ok-wanted.wanted c.in_ok-wanted.ensures new
    (subst (λ (z : P.MlType × P.MlType). Equates mid c.args.place (type_of z.0) (type_of z.1) new (Ok tt)) (λ i. (c.deref.ensures i, c.deref-2.ensures i)) c.in_ok-equal.ensures)
