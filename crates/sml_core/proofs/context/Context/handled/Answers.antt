use Rattle.std.proofs.Common.{Ok, Err, map, ap, subst, refl, ◌∙◌}
use Rattle.sml_objects.specs.Objects.{arrow_of}
use Rattle.sml_tree.specs.ExpressionViews.{rule_of, rules_of}
use Rattle.sml_objects.specs.Views.{type_of}
use Rattle.sml_types.specs.declared.fault.CoreFault.TheVariants as F
use Rattle.sml_core.specs.Answered.{Equates}
use Rattle.sml_core.specs.Rules.{Handles}
use Rattle.sml_core.proofs.Matches.{handled-so, handler-unequal, handler-unjudged, handles-memory}
use Rattle.sml_core.proofs.Sequences.{by-err}
use Rattle.sml_core.proofs.context.Context.handled.Goals as goal

pub returns-in_err-exn : goal.returns-in_err-exn
returns-in_err-exn c =
    by-err (Handles c.args.self.now c.args.place (type_of c.args.ty.value) (type_of c.args.handler.now) (rules_of (map rule_of c.args.rules.now)) c.args.self.now) c.from_residual.result F.Memory c.from_residual.ensures.1
    (handles-memory c.args.self.now c.args.self.now c.args.place (type_of c.args.ty.value) (type_of c.args.handler.now) (rules_of (map rule_of c.args.rules.now)))

pub returns-in_err-clone : goal.returns-in_err-clone
returns-in_err-clone c =
    by-err (Handles c.args.self.now c.args.place (type_of c.args.ty.value) (type_of c.args.handler.now) (rules_of (map rule_of c.args.rules.now)) c.args.self.now) c.from_residual-in_err-clone.result F.Memory
    c.from_residual-in_err-clone.ensures.1
    (handles-memory c.args.self.now c.args.self.now c.args.place (type_of c.args.ty.value) (type_of c.args.handler.now) (rules_of (map rule_of c.args.rules.now)))

pub returns-in_err-wanted : goal.returns-in_err-wanted
returns-in_err-wanted c =
    by-err (Handles c.args.self.now c.args.place (type_of c.args.ty.value) (type_of c.args.handler.now) (rules_of (map rule_of c.args.rules.now)) c.args.self.now) c.from_residual-in_err-wanted.result F.Memory
    c.from_residual-in_err-wanted.ensures.1
    (handles-memory c.args.self.now c.args.self.now c.args.place (type_of c.args.ty.value) (type_of c.args.handler.now) (rules_of (map rule_of c.args.rules.now)))

pub returns-in_err-equal : goal.returns-in_err-equal
returns-in_err-equal c =
    let f = c.in_err-equal.field-0.0 in
    let wanted = c.in_ok-wanted.wanted.value in
    let h = type_of c.args.handler.now in
    let is_wanted = c.in_ok-wanted.ensures ∙ (λ i. arrow_of (c.in_ok-exn.ensures i) (ap (λ (t : _). type_of t) c.in_ok-clone.ensures.cases i)) in
    by-err (Handles c.args.self.now c.args.place (type_of c.args.ty.value) h (rules_of (map rule_of c.args.rules.now)) c.equal.new.self) c.from_residual-in_err-equal.result f c.from_residual-in_err-equal.ensures.1
    (handler-unequal c.args.self.now c.equal.new.self c.args.place (type_of c.args.ty.value) h (rules_of (map rule_of c.args.rules.now)) wanted is_wanted f
    (subst (λ w. Equates c.args.self.now c.args.place h (type_of w) c.equal.new.self (Err f)) c.deref.ensures c.in_err-equal.ensures))

pub returns-in_err-judge_rules : goal.returns-in_err-judge_rules
returns-in_err-judge_rules c =
    let f = c.in_err-judge_rules.field-0.0 in
    let wanted = c.in_ok-wanted.wanted.value in
    let h = type_of c.args.handler.now in
    let m = rules_of (map rule_of c.args.rules.now) in
    let new = record c.equal.new.self { warnings = c.judge_rules.new.warnings } in
    let is_wanted = c.in_ok-wanted.ensures ∙ (λ i. arrow_of (c.in_ok-exn.ensures i) (ap (λ (t : _). type_of t) c.in_ok-clone.ensures.cases i)) in
    by-err (Handles c.args.self.now c.args.place (type_of c.args.ty.value) h m new) c.from_residual-in_err-judge_rules.result f c.from_residual-in_err-judge_rules.ensures.1
    (handler-unjudged c.args.self.now c.equal.new.self c.args.place (type_of c.args.ty.value) h m wanted is_wanted
    (subst (λ w. Equates c.args.self.now c.args.place h (type_of w) c.equal.new.self (Ok tt)) c.deref.ensures c.in_ok-equal.ensures) new f c.in_err-judge_rules.ensures.fault)

pub returns : goal.returns
returns c =
    let wanted = c.in_ok-wanted.wanted.value in
    let h = type_of c.args.handler.now in
    let m = rules_of (map rule_of c.args.rules.now) in
    let is_wanted = c.in_ok-wanted.ensures ∙ (λ i. arrow_of (c.in_ok-exn.ensures i) (ap (λ (t : _). type_of t) c.in_ok-clone.ensures.cases i)) in
    handled-so c.args.self.now c.equal.new.self c.args.place (type_of c.args.ty.value) h m wanted is_wanted
    (subst (λ w. Equates c.args.self.now c.args.place h (type_of w) c.equal.new.self (Ok tt)) c.deref.ensures c.in_ok-equal.ensures) c.judge_rules.new.warnings c.args.ty refl
