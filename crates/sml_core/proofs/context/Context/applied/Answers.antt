use Rattle.std.proofs.Common.{ap}
use Rattle.sml_objects.specs.Views.{type_of}
use Rattle.sml_types.specs.declared.fault.CoreFault.TheVariants as F
use Rattle.sml_core.proofs.Sequences.{by-err}
use Rattle.sml_core.proofs.Applying.{applied-bound, applied-free, applied-memory, applied-name, applied-row, written-applied, written-refused}
use Rattle.sml_core.specs.Answered.{Applies}
use Rattle.sml_core.proofs.context.Context.applied.Goals as goal

pub returns-in_err-equal-in-Arrow : goal.returns-in_err-equal-in-Arrow
returns-in_err-equal-in-Arrow c =
    by-err (Applies c.args.self.now c.args.place (type_of c.args.function.now) (type_of c.args.argument.value) c.equal.new.self) c.from_residual.result c.in_err-equal-in-Arrow.field-0.0 c.from_residual.ensures.1
    (written-refused c.args.self.now c.equal.new.self c.args.place c.args.function.now c.in-Arrow.from c.in-Arrow.to c.in-Arrow.is c.deref.result.now c.deref-in-Arrow.result.now
    (type_of c.args.argument.value) c.deref.ensures (ap type_of c.deref-in-Arrow.ensures) c.in_err-equal-in-Arrow.field-0.0 c.in_err-equal-in-Arrow.ensures)

pub returns-in_err-clone-in-Arrow : goal.returns-in_err-clone-in-Arrow
returns-in_err-clone-in-Arrow c =
    by-err (Applies c.args.self.now c.args.place (type_of c.args.function.now) (type_of c.args.argument.value) c.equal.new.self) c.from_residual-in_err-clone-in-Arrow.result F.Memory c.from_residual-in_err-clone-in-Arrow.ensures.1
    (applied-memory c.args.self.now c.equal.new.self c.args.place (type_of c.args.function.now) (type_of c.args.argument.value))

pub returns-in_ok-clone-in-Arrow : goal.returns-in_ok-clone-in-Arrow
returns-in_ok-clone-in-Arrow c =
    written-applied c.args.self.now c.equal.new.self c.args.place c.args.function.now c.in-Arrow.from c.in-Arrow.to c.in-Arrow.is c.deref.result.now c.deref-in-Arrow.result.now
    (type_of c.args.argument.value) c.deref.ensures (ap type_of c.deref-in-Arrow.ensures) c.in_ok-clone-in-Arrow.field-0 c.in_ok-equal-in-Arrow.ensures c.in_ok-clone-in-Arrow.ensures.cases

pub returns-in-Bound : goal.returns-in-Bound
returns-in-Bound c =
    applied-bound c.args.self.now c.applied_so.new.self c.args.place c.args.function.now (type_of c.args.argument.value) c.applied_so.result c.applied_so.ensures _ c.in-Bound.is

pub returns-in-Free : goal.returns-in-Free
returns-in-Free c =
    applied-free c.args.self.now c.applied_so-in-Free.new.self c.args.place c.args.function.now (type_of c.args.argument.value) c.applied_so-in-Free.result c.applied_so-in-Free.ensures _ c.in-Free.is

pub returns-in-Row : goal.returns-in-Row
returns-in-Row c =
    applied-row c.args.self.now c.applied_so-in-Row.new.self c.args.place c.args.function.now (type_of c.args.argument.value) c.applied_so-in-Row.result c.applied_so-in-Row.ensures _ _ c.in-Row.is

pub returns-in-Name : goal.returns-in-Name
returns-in-Name c =
    applied-name c.args.self.now c.applied_so-in-Name.new.self c.args.place c.args.function.now (type_of c.args.argument.value) c.applied_so-in-Name.result c.applied_so-in-Name.ensures _ _ c.in-Name.is
