use Rattle.sml_tree.specs.TypeViews.{ty_of}
use Rattle.sml_types.specs.declared.fault.CoreFault.TheVariants as F
use Rattle.sml_core.proofs.Sequences.{by-err}
use Rattle.sml_core.proofs.Constraints.{constraint-large, constraint-memory, constraint-read, constraint-unread}
use Rattle.sml_core.specs.Patterns.{ReadsConstraint}
use Rattle.sml_core.proofs.context.Context.ty.Goals as goal

pub returns-in_err-written : goal.returns-in_err-written
returns-in_err-written c =
    let old = c.args.self.now in
    let new = c.written.new.self in
    let ty = ty_of c.args.ty.now in
    by-err (ReadsConstraint old ty new) c.from_residual.result c.in_err-written.field-0.0 c.from_residual.ensures.1 (constraint-unread old new ty c.in_err-written.field-0.0 c.in_err-written.ensures.answer)

pub returns-in_err-small : goal.returns-in_err-small
returns-in_err-small c =
    let old = c.args.self.now in
    let new = c.written.new.self in
    let ty = ty_of c.args.ty.now in
    by-err (ReadsConstraint old ty new) c.from_residual-in_err-small.result c.in_err-small.field-0.0 c.from_residual-in_err-small.ensures.1
    (constraint-large old new ty c.in_ok-written.written c.in_ok-written.ensures.answer c.type_place.result c.type_place.ensures c.deref.result.now c.deref.ensures c.in_err-small.field-0.0 c.in_err-small.ensures)

pub returns-in_err-make : goal.returns-in_err-make
returns-in_err-make c =
    let old = c.args.self.now in
    let new = c.written.new.self in
    let ty = ty_of c.args.ty.now in
    by-err (ReadsConstraint old ty new) c.from_residual-in_err-make.result F.Memory c.from_residual-in_err-make.ensures.1 (constraint-memory old new ty)

pub returns : goal.returns
returns c =
    constraint-read c.args.self.now c.written.new.self (ty_of c.args.ty.now) c.in_ok-written.written c.in_ok-written.ensures.answer c.type_place.result c.type_place.ensures c.deref.result.now c.deref.ensures
    c.in_ok-small.ensures c.deref-2.result.now c.deref-2.ensures c.in_ok-make.field-0 c.in_ok-make.ensures c.in_ok-written.ensures.scoped c.in_ok-written.ensures.same
