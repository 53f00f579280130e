use Rattle.std.proofs.Common.{Ok, Err, subst, sym}
use Rattle.std.proofs.lemmas.Map.Iter.{rest_all, rest_more}
use Rattle.std.specs.Map.Iter.{deref_pair}
use Rattle.sml_lex.specs.declared.fault.Place.{Place}
use Rattle.sml_tree.specs.PatternViews.{pat_of}
use Rattle.sml_tree.specs.ExpressionViews.{exp_of, rule_of}
use Rattle.sml_tree.specs.Trees.{Id}
use Rattle.sml_tree.specs.Views.{ident_of}
use Rattle.sml_tree.specs.declared.expressions.Rule.{out-Rule}
use Rattle.sml_objects.specs.Initial.{Name}
use Rattle.sml_objects.specs.Objects.{MlType}
use Rattle.sml_objects.specs.Views.{type_of}
use Rattle.sml_layers.specs.declared.layer.Bound.TheVariants.{Newness}
use Rattle.sml_core_rules.specs.Patterns.{pattern_place}
use Rattle.sml_core_rules.specs.States.{State}
use Rattle.sml_types.specs.declared.fault.CoreFault.TheVariants as F
use Rattle.sml_core.specs.Answered.{Limits}
use Rattle.sml_core.specs.Patterns.{AreBoundIn, bindings_of}
use Rattle.sml_core.specs.Rules.{OpensRule}
use Rattle.sml_core.proofs.Opening.{BindsAll, IsBinding, all-bound, binds-memory, bindings-left, none-bound, one-bound, one-not, pattern-refused, rule-opened, variables-refused}
use Rattle.sml_core.proofs.Sequences.{by-err}
use Rattle.sml_core.proofs.Views.{rule_of-parts}
use Rattle.sml_core.proofs.context.Context.rule_pattern.Goals as goal

pub returns-in_err-ty : goal.returns-in_err-ty
returns-in_err-ty c =
    let r = out-Rule c.args.rule.now in
    let f = c.in_err-ty.field-0.0 in
    let old = c.args.self.now in
    let mid = c.pattern.new.self in
    by-err (OpensRule old (rule_of c.args.rule.now) mid) c.from_residual.result f c.from_residual.ensures.1
    (subst (λ r. OpensRule old r mid (Err f)) (sym (rule_of-parts c.args.rule.now))
    (pattern-refused old mid mid c.new-variables.result c.pattern.new.variables r.place (pat_of r.pat) (exp_of r.exp) c.new-variables.ensures.none c.new-variables.ensures.kind f c.in_err-ty.ensures.reads))

pub loop-name-init : goal.loop-name-init
loop-name-init c =
    let r = out-Rule c.args.rule.now in
    let old = c.args.self.now in
    let mid = c.pattern.new.self in
    let vars = c.pattern.new.variables in
    let all = c.into_iter-name-iterator.result in
    let bs = bindings-left all in
    let place = pattern_place (pat_of r.pat) in
    ((λ s a. a), none-bound mid place bs)

pub loop-name-preserved : goal.loop-name-preserved
loop-name-preserved c =
    let r = out-Rule c.args.rule.now in
    let old = c.args.self.now in
    let mid = c.pattern.new.self in
    let vars = c.pattern.new.variables in
    let all = c.into_iter-name-iterator.result in
    let bs = bindings-left all in
    let place = pattern_place (pat_of r.pat) in
    let i = c.loop-name.invariant in
    let now = c.loop-name.self in
    let left = c.next.new.self in
    let b : Id × MlType Name = (ident_of c.in-Some.name.now, type_of c.in-Some.ty.now.value) in
    let first = rest_more deref_pair c.loop-name.name-iterator left c.next.result (c.in-Some.name, c.in-Some.ty) c.in-Some.is c.next.ensures.steps in
    let so = subst (λ es. IsBinding mid place bs (bindings-left es) now) first i.1 in
    let inside = λ (s : State Place Name) (a : AreBoundIn s bs). subst (λ es. AreBoundIn s (bindings-left es)) first (i.0 s a) in (
      (λ s a. (inside s a).1),
      one-bound mid now c.within.new.self c.bind_variable.new.self place bs (bindings-left left) b so (λ s a. (inside s a).0)
          (subst (λ (p : Place). Limits now p (type_of c.in-Some.ty.now.value) Newness now.new.next c.within.new.self (Ok tt)) c.pattern_place.ensures
          (subst (λ t. Limits now c.pattern_place.result (type_of t) Newness now.new.next c.within.new.self (Ok tt)) c.deref.ensures c.in_ok-within.ensures))
          c.in_ok-bind_variable.ensures.bound c.in_ok-bind_variable.ensures.around c.bind_variable.ensures.same,
    )

pub returns-in_err-within : goal.returns-in_err-within
returns-in_err-within c =
    let r = out-Rule c.args.rule.now in
    let old = c.args.self.now in
    let mid = c.pattern.new.self in
    let vars = c.pattern.new.variables in
    let all = c.into_iter-name-iterator.result in
    let bs = bindings-left all in
    let place = pattern_place (pat_of r.pat) in
    let i = c.loop-name.invariant in
    let now = c.loop-name.self in
    let left = c.next.new.self in
    let b : Id × MlType Name = (ident_of c.in-Some.name.now, type_of c.in-Some.ty.now.value) in
    let first = rest_more deref_pair c.loop-name.name-iterator left c.next.result (c.in-Some.name, c.in-Some.ty) c.in-Some.is c.next.ensures.steps in
    let so = subst (λ es. IsBinding mid place bs (bindings-left es) now) first i.1 in
    let inside = λ (s : State Place Name) (a : AreBoundIn s bs). subst (λ es. AreBoundIn s (bindings-left es)) first (i.0 s a) in
    let f = c.in_err-within.field-0.0 in
    let new = c.within.new.self in
    by-err (OpensRule old (rule_of c.args.rule.now) new) c.from_residual-in_err-within.result f c.from_residual-in_err-within.ensures.1
    (subst (λ r. OpensRule old r new (Err f)) (sym (rule_of-parts c.args.rule.now))
    (variables-refused old mid new c.new-variables.result vars r.place (pat_of r.pat) (exp_of r.exp) c.new-variables.ensures.none c.new-variables.ensures.kind c.in_ok-ty.ty c.in_ok-ty.ensures.reads f
    (subst (λ es. BindsAll mid place (bindings-left es) new (Err f)) c.into_iter-name-iterator.ensures.into_iter_gives.0
    (one-not mid now new new place bs (bindings-left left) b so (λ s a. (inside s a).0) f
    (subst (λ (p : Place). Limits now p (type_of c.in-Some.ty.now.value) Newness now.new.next c.within.new.self (Err f)) c.pattern_place.ensures
    (subst (λ t. Limits now c.pattern_place.result (type_of t) Newness now.new.next c.within.new.self (Err f)) c.deref.ensures c.in_err-within.ensures))))))

pub returns-in_err-bind_variable : goal.returns-in_err-bind_variable
returns-in_err-bind_variable c =
    let r = out-Rule c.args.rule.now in
    let old = c.args.self.now in
    let mid = c.pattern.new.self in
    let vars = c.pattern.new.variables in
    let place = pattern_place (pat_of r.pat) in
    let new = c.bind_variable.new.self in
    by-err (OpensRule old (rule_of c.args.rule.now) new) c.from_residual-in_err-bind_variable.result F.Memory c.from_residual-in_err-bind_variable.ensures.1
    (subst (λ r. OpensRule old r new (Err F.Memory)) (sym (rule_of-parts c.args.rule.now))
    (variables-refused old mid new c.new-variables.result vars r.place (pat_of r.pat) (exp_of r.exp) c.new-variables.ensures.none c.new-variables.ensures.kind c.in_ok-ty.ty c.in_ok-ty.ensures.reads F.Memory
    (binds-memory mid new place (bindings_of vars))))

pub returns : goal.returns
returns c =
    let r = out-Rule c.args.rule.now in
    let old = c.args.self.now in
    let mid = c.pattern.new.self in
    let vars = c.pattern.new.variables in
    let all = c.into_iter-name-iterator.result in
    let bs = bindings-left all in
    let place = pattern_place (pat_of r.pat) in
    let new = c.loop-name.self in
    let t = c.in_ok-ty.ty in
    subst (λ r. OpensRule old r new (Ok t)) (sym (rule_of-parts c.args.rule.now))
    (rule-opened old mid new c.new-variables.result vars r.place (pat_of r.pat) (exp_of r.exp) c.new-variables.ensures.none c.new-variables.ensures.kind t c.in_ok-ty.ensures.reads
    (subst (λ es. BindsAll mid place (bindings-left es) new (Ok tt)) c.into_iter-name-iterator.ensures.into_iter_gives.0
    (all-bound mid new place bs
    (subst (λ es. IsBinding mid place bs (bindings-left es) new) (rest_all deref_pair c.loop-name.name-iterator c.next.new.self c.next.result c.in-None.is c.next.ensures.steps) c.loop-name.invariant.1))))
