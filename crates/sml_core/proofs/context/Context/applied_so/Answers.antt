use Rattle.std.proofs.Common.{ap, ◌∙◌}
use Rattle.sml_objects.specs.Objects.{arrow_of}
use Rattle.sml_objects.specs.Views.{type_of}
use Rattle.sml_types.specs.declared.fault.CoreFault.TheVariants as F
use Rattle.sml_core.proofs.Sequences.{by-err}
use Rattle.sml_core.proofs.Applying.{general-applied, general-memory, general-not-made, general-refused}
use Rattle.sml_core.specs.Answered.{AppliesSo}
use Rattle.sml_core.proofs.context.Context.applied_so.Goals as goal

pub returns-in_err-result : goal.returns-in_err-result
returns-in_err-result c =
    by-err (AppliesSo c.args.self.now c.args.place (type_of c.args.function.now) (type_of c.args.argument.value) c.unknown.new.self) c.from_residual.result c.in_err-result.field-0.0 c.from_residual.ensures.1
    (general-not-made c.args.self.now c.unknown.new.self c.args.place (type_of c.args.function.now) (type_of c.args.argument.value) c.in_err-result.field-0.0 c.in_err-result.ensures)

pub returns-in_err-clone : goal.returns-in_err-clone
returns-in_err-clone c =
    by-err (AppliesSo c.args.self.now c.args.place (type_of c.args.function.now) (type_of c.args.argument.value) c.unknown.new.self) c.from_residual-in_err-clone.result F.Memory c.from_residual-in_err-clone.ensures.1
    (general-memory c.args.self.now c.unknown.new.self c.args.place (type_of c.args.function.now) (type_of c.args.argument.value))

pub returns-in_err-wanted : goal.returns-in_err-wanted
returns-in_err-wanted c =
    by-err (AppliesSo c.args.self.now c.args.place (type_of c.args.function.now) (type_of c.args.argument.value) c.unknown.new.self) c.from_residual-in_err-wanted.result F.Memory c.from_residual-in_err-wanted.ensures.1
    (general-memory c.args.self.now c.unknown.new.self c.args.place (type_of c.args.function.now) (type_of c.args.argument.value))

pub returns-in_err-equal : goal.returns-in_err-equal
returns-in_err-equal c =
    let a = type_of c.args.argument.value in
    by-err (AppliesSo c.args.self.now c.args.place (type_of c.args.function.now) a c.equal.new.self) c.from_residual-in_err-equal.result c.in_err-equal.field-0.0 c.from_residual-in_err-equal.ensures.1
    (general-refused c.args.self.now c.unknown.new.self c.equal.new.self c.args.place (type_of c.args.function.now) a c.in_ok-result.result c.deref.result.now c.in_ok-result.ensures
    (ap type_of c.deref.ensures ∙ (c.in_ok-wanted.ensures ∙ ap (λ v. arrow_of a (type_of v)) c.in_ok-clone.ensures.cases)) c.in_err-equal.field-0.0 c.in_err-equal.ensures)

pub returns : goal.returns
returns c =
    let a = type_of c.args.argument.value in
    general-applied c.args.self.now c.unknown.new.self c.equal.new.self c.args.place (type_of c.args.function.now) a c.in_ok-result.result c.deref.result.now c.in_ok-result.ensures
    (ap type_of c.deref.ensures ∙ (c.in_ok-wanted.ensures ∙ ap (λ v. arrow_of a (type_of v)) c.in_ok-clone.ensures.cases)) c.in_ok-equal.ensures
