use Rattle.std.proofs.Common.{◌≡◌, true, false, Option, Some, None, Ok, ap, subst, sym, ◌∙◌}
use Rattle.sml_tree.specs.TypeViews.{long_name_of}
use Rattle.sml_tree.specs.Views.{long_of}
use Rattle.sml_tree.specs.declared.bare.LongIdent.{LongIdent}
use Rattle.sml_objects.specs.Initial.{Name}
use Rattle.sml_objects.specs.Views.{type_of}
use Rattle.sml_core_rules.specs.Lookups.{value_at}
use Rattle.sml_core_rules.specs.Objects.{Env}
use Rattle.sml_core_rules.specs.Values.{is_arrow}
use Rattle.sml_bases.specs.Views.{value_of}
use Rattle.sml_bases.specs.declared.objects.Value.{Value}
use Rattle.sml_scopes.specs.Means.{Means}
use Rattle.sml_scopes.specs.declared.scopes.Scopes.{Scopes}
use Rattle.sml_types.specs.declared.fault.CoreFault.TheVariants as F
use Rattle.sml_core.proofs.Binding.{applied-instance, applied-lost, applied-memory, applied-no-arrow, applied-no-constructor, applied-unbound, arrow-is, empty-path, not-arrow, some-path}
use Rattle.sml_core.proofs.Sequences.{by-err}
use Rattle.sml_core.specs.Answered.{FindsValue}
use Rattle.sml_core.specs.Patterns.{AppliesConstructor}
use Rattle.sml_core.proofs.context.Context.applied_constructor.Goals as goal

-- what was found, where it is known whether that is a value
found-so : (s : Scopes) (x : LongIdent) (o known : Option Value) → o ≡ known → ((C : Env Name) → Means s C → FindsValue x.place (Ok o) (value_at C (long_of x)))
    → (C : Env Name) → Means s C → FindsValue x.place (Ok known) (value_at C (long_of x))
found-so s x o known is finds = λ C means. subst (λ o. FindsValue x.place (Ok o) (value_at C (long_of x))) is (finds C means)

pub returns-in_err-value : goal.returns-in_err-value
returns-in_err-value c =
    by-err (AppliesConstructor c.args.self.now c.args.place (long_name_of c.args.long.now) c.args.self.now) c.from_residual.result c.in_err-value.field-0.0 c.from_residual.ensures.1
    (applied-lost c.args.self.now c.args.place (long_name_of c.args.long.now) c.args.self.now c.in_err-value.field-0.0 c.in_err-value.ensures)

pub returns-then-is_empty : goal.returns-then-is_empty
returns-then-is_empty c =
    let x = c.args.long.now in
    applied-unbound c.args.self.now c.args.place (long_name_of x) c.args.self.now c.plain_fault.result
    true (empty-path x.path c.is_empty.result c.is_empty.ensures c.if-is_empty.true) c.plain_fault.ensures
    (found-so c.args.self.now.scopes x c.in_ok-value.field-0 None c.in_default.is c.in_ok-value.ensures)

pub returns-in_err-unbound : goal.returns-in_err-unbound
returns-in_err-unbound c =
    by-err (AppliesConstructor c.args.self.now c.args.place (long_name_of c.args.long.now) c.args.self.now) c.from_residual-in_err-unbound.result F.Memory c.from_residual-in_err-unbound.ensures.1
    (applied-memory c.args.self.now c.args.place (long_name_of c.args.long.now) c.args.self.now)

pub returns-in_default : goal.returns-in_default
returns-in_default c =
    let x = c.args.long.now in
    applied-unbound c.args.self.now c.args.place (long_name_of x) c.args.self.now c.in_ok-unbound.field-0
    false (some-path x.path c.is_empty.result c.is_empty.ensures c.if-is_empty.false) c.in_ok-unbound.ensures
    (found-so c.args.self.now.scopes x c.in_ok-value.field-0 None c.in_default.is c.in_ok-value.ensures)

pub returns-then-not-is_constructor : goal.returns-then-not-is_constructor
returns-then-not-is_constructor c =
    let x = c.args.long.now in
    applied-no-constructor c.args.self.now c.args.place (long_name_of x) (value_of c.in-Some.value) (found-so c.args.self.now.scopes x c.in_ok-value.field-0 (Some c.in-Some.value) c.in-Some.is c.in_ok-value.ensures)
    c.args.self.now c.plain_fault-then-not-is_constructor.result c.plain_fault-then-not-is_constructor.ensures (sym c.is_constructor.ensures ∙ c.if-not-is_constructor.true)

pub returns-in-Arrow : goal.returns-in-Arrow
returns-in-Arrow c =
    let x = c.args.long.now in
    applied-instance c.args.self.now c.args.place (long_name_of x) (value_of c.in-Some.value) (found-so c.args.self.now.scopes x c.in_ok-value.field-0 (Some c.in-Some.value) c.in-Some.is c.in_ok-value.ensures)
    c.instance.new.self c.instance.result (sym c.is_constructor.ensures ∙ c.if-not-is_constructor.false)
    (sym (ap (λ t. is_arrow (type_of t)) (c.deref-2.ensures ∙ ap (λ s. s.body.value) c.deref.ensures)) ∙ arrow-is c.deref-2.result.now c.in-Arrow.field-0 c.in-Arrow.field-1 c.in-Arrow.is)
    c.instance.ensures

pub returns : goal.returns
returns c =
    let x = c.args.long.now in
    applied-no-arrow c.args.self.now c.args.place (long_name_of x) (value_of c.in-Some.value) (found-so c.args.self.now.scopes x c.in_ok-value.field-0 (Some c.in-Some.value) c.in-Some.is c.in_ok-value.ensures)
    c.args.self.now c.plain_fault-in_default-deref.result c.plain_fault-in_default-deref.ensures (sym c.is_constructor.ensures ∙ c.if-not-is_constructor.false)
    (sym (ap (λ t. is_arrow (type_of t)) (c.deref-2.ensures ∙ ap (λ s. s.body.value) c.deref.ensures)) ∙ not-arrow c.deref-2.result.now c.in_default-deref.not-Arrow)
