use Rattle.std.proofs.Common.{ap, ◌∙◌}
use Rattle.sml_objects.specs.Views.{type_of}
use Rattle.sml_types.specs.declared.fault.CoreFault.TheVariants as F
use Rattle.sml_core.proofs.Sequences.{by-err}
use Rattle.sml_core.proofs.Raising.{raise-equal, raise-unequal, raises-memory}
use Rattle.sml_core.specs.Answered.{Raises}
use Rattle.sml_core.proofs.context.Context.raised.Goals as goal

pub returns-in_err-exn : goal.returns-in_err-exn
returns-in_err-exn c =
    by-err (Raises c.args.self.now c.args.place (type_of c.args.ty.now) c.args.self.now) c.from_residual.result F.Memory c.from_residual.ensures.1
    (raises-memory c.args.self.now c.args.self.now c.args.place (type_of c.args.ty.now))

pub returns-in_err-equal : goal.returns-in_err-equal
returns-in_err-equal c =
    by-err (Raises c.args.self.now c.args.place (type_of c.args.ty.now) c.equal.new.self) c.from_residual-in_err-equal.result c.in_err-equal.field-0.0 c.from_residual-in_err-equal.ensures.1
    (raise-unequal c.args.self.now c.equal.new.self c.args.place (type_of c.args.ty.now) c.deref.result.now (ap type_of c.deref.ensures ∙ c.in_ok-exn.ensures) c.in_err-equal.field-0.0 c.in_err-equal.ensures)

pub returns : goal.returns
returns c =
    raise-equal c.args.self.now c.equal.new.self c.args.place (type_of c.args.ty.now) c.deref.result.now (ap type_of c.deref.ensures ∙ c.in_ok-exn.ensures) c.unknown.new.self c.unknown.result c.in_ok-equal.ensures c.unknown.ensures
