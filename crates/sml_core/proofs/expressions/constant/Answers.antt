use Rattle.std.proofs.Common.{◌≡◌, sym, subst}
use Rattle.std.specs.Prelude.{IfOk}
use Rattle.sml_objects.specs.Initial.{naming}
use Rattle.sml_objects.specs.Views.{type_of}
use Rattle.sml_core_rules.specs.Patterns.{constant_type}
use Rattle.sml_core.proofs.expressions.constant.Goals as goal

pub returns-in-Integer : goal.returns-in-Integer
unfolding naming
returns-in-Integer c = subst (λ k. IfOk c.initial.result (λ t. type_of t.value ≡ constant_type naming k)) (sym c.in-Integer.is) c.initial.ensures

pub returns-in-Word : goal.returns-in-Word
unfolding naming
returns-in-Word c = subst (λ k. IfOk c.initial-in-Word.result (λ t. type_of t.value ≡ constant_type naming k)) (sym c.in-Word.is) c.initial-in-Word.ensures

pub returns-in-Real : goal.returns-in-Real
unfolding naming
returns-in-Real c = subst (λ k. IfOk c.initial-in-Real.result (λ t. type_of t.value ≡ constant_type naming k)) (sym c.in-Real.is) c.initial-in-Real.ensures

pub returns-in-String : goal.returns-in-String
unfolding naming
returns-in-String c = subst (λ k. IfOk c.initial-in-String.result (λ t. type_of t.value ≡ constant_type naming k)) (sym c.in-String.is) c.initial-in-String.ensures

pub returns-in-Character : goal.returns-in-Character
unfolding naming
returns-in-Character c = subst (λ k. IfOk c.initial-in-Character.result (λ t. type_of t.value ≡ constant_type naming k)) (sym c.in-Character.is) c.initial-in-Character.ensures
