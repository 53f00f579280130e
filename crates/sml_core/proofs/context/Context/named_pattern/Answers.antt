use Rattle.std.proofs.Common.{◌≡◌, ◌&&◌, false, not, codes, refl, ap, sym, ◌∙◌}
use Rattle.std.proofs.lemmas.Bool.{and_left, and_right}
use Rattle.sml_tree.specs.TypeViews.{long_name_of}
use Rattle.sml_tree.specs.Views.{ident_of}
use Rattle.sml_objects.specs.Initial.{Name}
use Rattle.sml_objects.specs.Views.{type_of}
use Rattle.sml_core_rules.specs.Lookups.{is_same}
use Rattle.sml_core_rules.specs.Objects as O
use Rattle.sml_core_rules.specs.Patterns.{is_empty, is_variable_alone, read_named}
use Rattle.sml_core_rules.specs.Scopes.{run_scope}
use Rattle.sml_core_rules.specs.Values.{is_arrow}
use Rattle.sml_bases.specs.Views.{value_of}
use Rattle.sml_scopes.specs.Means.{Means}
use Rattle.sml_core.proofs.Binding.{arrow-is, bound-alone, bound-by-rec, empty-path, named-arrow, named-instance, named-no-constructor, named-unbound, named-variable, no-rec, not-alone, not-arrow, other-alone, some-path}
use Rattle.sml_core.proofs.Sequences.{by-err}
use Rattle.sml_core.specs.Answered.{unit_of}
use Rattle.sml_core.specs.Patterns.{BindsType}
use Rattle.sml_core.proofs.context.Context.named_pattern.Goals as goal
use Rattle.sml_core.proofs.context.Context.named_pattern.Goals.{After-value, then-variables, else-variables, then-is_bound-via-then-is_bound, then-is_bound-via-else-is_bound+then-not-is_constructor, then-is_empty+else-is_bound+else-not-is_constructor, else-is_empty}

pub returns-then-is_bound-clause-binds : goal.returns-then-is_bound-clause-binds
returns-then-is_bound-clause-binds c =
    let vars = c.args.variables.now in
    let y = ident_of c.args.long.now.last in
    let is : c.if-variables.is_bound ≡ vars.is_recursive && not (is_same y (codes "nil")) =
    elim c.if-variables.branch [
      | then-variables w ↦ bound-by-rec vars.is_recursive w.is_nil.result c.if-variables.is_bound y w.if-variables.true w.is_nil.ensures w.is_bound-is
      | else-variables w ↦ no-rec vars.is_recursive c.if-variables.is_bound y w.if-variables.false w.is_bound-is
    ] in
    named-variable c.args.self.now c.variable.new.self vars c.variable.new.variables c.args.place (long_name_of c.args.long.now) c.variable.result
    (empty-path c.args.long.now.path c.is_empty.result c.is_empty.ensures c.if-is_empty.true)
    (λ C means. elim c.then-is_bound.branch [
      | then-is_bound-via-then-is_bound w ↦ bound-alone vars.is_recursive C y c.if-variables.is_bound is w.if-is_bound.true
      | then-is_bound-via-else-is_bound+then-not-is_constructor w ↦
          other-alone vars.is_recursive C y (sym (w.status.ensures C means) ∙ sym w.is_constructor.ensures ∙ w.if-not-is_constructor.true)
    ]) c.variable.ensures.binds

-- one that is no variable
other : (c : After-value) (C : O.Env Name) → Means c.args.self.now.scopes C
    → is_empty (long_name_of c.args.long.now).id.path && is_variable_alone c.args.variables.now.is_recursive C (ident_of c.args.long.now.last) ≡ false
other c C means =
    let x = long_name_of c.args.long.now in
    let r = c.args.variables.now.is_recursive in
    let y = ident_of c.args.long.now.last in
    elim c.if-is_empty.branch [
      | then-is_empty+else-is_bound+else-not-is_constructor w ↦
          let is : w.if-variables.is_bound ≡ r && not (is_same y (codes "nil")) =
          elim w.if-variables.branch [
            | then-variables v ↦ bound-by-rec r v.is_nil.result w.if-variables.is_bound y v.if-variables.true v.is_nil.ensures v.is_bound-is
            | else-variables v ↦ no-rec r w.if-variables.is_bound y v.if-variables.false v.is_bound-is
          ] in
          and_right (is_empty x.id.path) (is_variable_alone r C y)
          (not-alone r C y w.if-variables.is_bound is w.if-is_bound.false (sym (w.status.ensures C means) ∙ sym w.is_constructor.ensures ∙ w.if-not-is_constructor.false))
      | else-is_empty w ↦ and_left (is_empty x.id.path) (is_variable_alone r C y) (some-path c.args.long.now.path c.is_empty.result c.is_empty.ensures w.if-is_empty.false)
    ]

pub returns-in_err-value-clause-binds : goal.returns-in_err-value-clause-binds
returns-in_err-value-clause-binds c =
    let x = long_name_of c.args.long.now in
    by-err (BindsType c.args.self.now c.args.variables.now (λ r C vs bs. read_named (run_scope (unit_of c.args.self.now)) r C vs c.args.place x bs) c.args.self.now c.args.variables.now)
    c.from_residual.result c.in_err-value.field-0.0 c.from_residual.ensures.1
    (named-unbound c.args.self.now c.args.variables.now c.args.place x (other (goal.at.returns-in_err-value-clause-binds c).After-value) c.args.self.now c.in_err-value.field-0.0 c.in_err-value.ensures)

pub returns-then-not-is_constructor-2-clause-binds : goal.returns-then-not-is_constructor-2-clause-binds
returns-then-not-is_constructor-2-clause-binds c =
    named-no-constructor c.args.self.now c.args.variables.now c.args.place (long_name_of c.args.long.now) (other (goal.at.returns-then-not-is_constructor-2-clause-binds c).After-value)
    (value_of c.in_ok-value.value) c.in_ok-value.ensures c.args.self.now c.plain_fault.result c.plain_fault.ensures (sym c.is_constructor-2.ensures ∙ c.if-not-is_constructor-2.true)

pub returns-in-Arrow-clause-binds : goal.returns-in-Arrow-clause-binds
returns-in-Arrow-clause-binds c =
    named-arrow c.args.self.now c.args.variables.now c.args.place (long_name_of c.args.long.now) (other (goal.at.returns-in-Arrow-clause-binds c).After-value)
    (value_of c.in_ok-value.value) c.in_ok-value.ensures c.args.self.now c.plain_fault-in-Arrow.result c.plain_fault-in-Arrow.ensures (sym c.is_constructor-2.ensures ∙ c.if-not-is_constructor-2.false)
    (sym (ap (λ t. is_arrow (type_of t)) (c.deref-2.ensures ∙ ap (λ s. s.body.value) c.deref.ensures)) ∙ arrow-is c.deref-2.result.now c.in-Arrow.field-0 c.in-Arrow.field-1 c.in-Arrow.is)

pub returns : goal.returns
returns c = record {
  binds =
      named-instance c.args.self.now c.args.variables.now c.args.place (long_name_of c.args.long.now) (other (goal.at.returns c).After-value)
      (value_of c.in_ok-value.value) c.in_ok-value.ensures c.instance.new.self c.instance.result (sym c.is_constructor-2.ensures ∙ c.if-not-is_constructor-2.false)
      (sym (ap (λ t. is_arrow (type_of t)) (c.deref-2.ensures ∙ ap (λ s. s.body.value) c.deref.ensures)) ∙ not-arrow c.deref-2.result.now c.in_default.not-Arrow) c.instance.ensures;
  kind = refl;
}
