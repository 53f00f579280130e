use Rattle.std.proofs.Common.{ap, refl, subst, ◌∙◌, Ok, Err}
use Rattle.sml_objects.specs.Views.{scheme_of, type_of}
use Rattle.sml_bases.specs.Views.{value_of}
use Rattle.sml_types.specs.declared.fault.CoreFault.TheVariants as F
use Rattle.sml_asks.specs.Steps.{Instantiates}
use Rattle.sml_core.proofs.Sequences.{by-err}
use Rattle.sml_core.proofs.Instances.{attributes-fault, instance-made, instance-memory, status-fault}
use Rattle.sml_core.specs.Answered.{AsksAttributes, MakesInstance}
use Rattle.sml_core.proofs.context.Context.instance.Goals as goal

pub returns-in_err-from : goal.returns-in_err-from
returns-in_err-from c =
    by-err (MakesInstance c.args.self.now c.args.place (value_of c.args.value.now) _) c.from_residual.result F.Memory c.from_residual.ensures.1
    (instance-memory c.args.self.now _ c.args.place (value_of c.args.value.now))

pub returns-in_default : goal.returns-in_default
returns-in_default c = instance-memory c.args.self.now _ c.args.place (value_of c.args.value.now)

pub returns-in_err-ask_attributes : goal.returns-in_err-ask_attributes
returns-in_err-ask_attributes c =
    let old = c.args.self.now in
    let v = value_of c.args.value.now in
    let mid = record old { solver = c.ask_instance.new.solver } in
    by-err (MakesInstance old c.args.place v c.ask_attributes.new.self) c.from_residual-in_err-ask_attributes.result c.in_err-ask_attributes.field-0.0 c.from_residual-in_err-ask_attributes.ensures.1
    (attributes-fault old mid mid c.args.place v c.ask_instance.new.solver c.in_ok-from.from (c.in_ok-from.ensures ∙ c.unknowns.ensures) c.in-Ok.ty refl
    (subst (λ s. Instantiates old.solver (scheme_of s) (type_of c.in-Ok.ty.value) c.ask_instance.new.solver) c.deref.ensures c.in-Ok.ensures.ok) c.ask_attributes.new.self c.in_err-ask_attributes.field-0.0
    (subst (λ es. AsksAttributes mid c.args.place c.in_ok-from.from es c.ask_attributes.new.self (Err c.in_err-ask_attributes.field-0.0)) (c.deref-3.ensures.value ∙ ap (λ s. s.variables.items) c.deref-2.ensures) c.in_err-ask_attributes.ensures))

pub returns-in_err-ask_status : goal.returns-in_err-ask_status
returns-in_err-ask_status c =
    let old = c.args.self.now in
    let v = value_of c.args.value.now in
    let mid = record old { solver = c.ask_instance.new.solver } in
    by-err (MakesInstance old c.args.place v c.ask_status.new.self) c.from_residual-in_err-ask_status.result c.in_err-ask_status.field-0.0 c.from_residual-in_err-ask_status.ensures.1
    (status-fault old mid c.ask_attributes.new.self c.args.place v c.ask_instance.new.solver c.in_ok-from.from (c.in_ok-from.ensures ∙ c.unknowns.ensures) c.in-Ok.ty refl
    (subst (λ s. Instantiates old.solver (scheme_of s) (type_of c.in-Ok.ty.value) c.ask_instance.new.solver) c.deref.ensures c.in-Ok.ensures.ok)
    (subst (λ es. AsksAttributes mid c.args.place c.in_ok-from.from es c.ask_attributes.new.self (Ok tt)) (c.deref-3.ensures.value ∙ ap (λ s. s.variables.items) c.deref-2.ensures) c.in_ok-ask_attributes.ensures)
    c.ask_status.new.self c.in_err-ask_status.field-0.0 c.in_err-ask_status.ensures)

pub returns : goal.returns
returns c =
    let old = c.args.self.now in
    let v = value_of c.args.value.now in
    let mid = record old { solver = c.ask_instance.new.solver } in
    instance-made old mid c.ask_attributes.new.self c.args.place v c.ask_instance.new.solver c.in_ok-from.from (c.in_ok-from.ensures ∙ c.unknowns.ensures) c.in-Ok.ty refl
    (subst (λ s. Instantiates old.solver (scheme_of s) (type_of c.in-Ok.ty.value) c.ask_instance.new.solver) c.deref.ensures c.in-Ok.ensures.ok)
    (subst (λ es. AsksAttributes mid c.args.place c.in_ok-from.from es c.ask_attributes.new.self (Ok tt)) (c.deref-3.ensures.value ∙ ap (λ s. s.variables.items) c.deref-2.ensures) c.in_ok-ask_attributes.ensures)
    c.ask_status.new.self c.in_ok-ask_status.ensures
