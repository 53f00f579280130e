-- Scripts in sequence, put together the other way round.
use Rattle.std.proofs.Common.{◌≡◌, [], false, Option, Some, ap, sym, ◌∙◌, refl}
use Rattle.sml_lex.specs.declared.fault.Place.{Place}
use Rattle.sml_tree.specs.Expressions.{Exp, Rules, and_rule, rule}
use Rattle.sml_tree.specs.Patterns.{Pat}
use Rattle.sml_objects.specs.Initial.{Name}
use Rattle.sml_objects.specs.Maps.{Map}
use Rattle.sml_objects.specs.Objects.{MlType, arrow_of}
use Rattle.sml_core_rules.specs.Objects.{Env}
use Rattle.sml_core_rules.specs.Scripts.{Script, give, refuse, tests, either, makes_unknowns, requires, sees, sets_window, stays_open, judges, starts_anew, requires_or, closes, determines, makes_names, makes_datatypes, ◌>>=◌}
use Rattle.sml_core_rules.specs.States.{Scope}
use Rattle.sml_core_rules.specs.Patterns.{Typed, pattern_place, read_pat}
use Rattle.sml_core_rules.specs.Expressions.{like_first, read_exp, read_rules, require_bindings}
use Rattle.sml_core.specs.Rules.{read_rule, read_rule_pattern, with_bound}

module _ {P N X Y Z : Type 0} (f : X → Script P N Y) (g : Y → Script P N Z) where
  pub associates : (k : Script P N X) → (k >>= f) >>= g ≡ k >>= (λ x. f x >>= g)
  unfolding ◌>>=◌
  associates (give x) = refl
  associates (refuse e) = refl
  associates (tests C e k) = ap (tests C e) (associates k)
  associates (either C k j) = λ i. either C (associates k i) (associates j i)
  associates (makes_unknowns n k) = λ i. makes_unknowns n (λ v. associates (k v) i)
  associates (requires d p k) = ap (requires d p) (associates k)
  associates (sees k) = λ i. sees (λ s. associates (k s) i)
  associates (sets_window w k) = ap (sets_window w) (associates k)
  associates (stays_open k) = ap stays_open (associates k)
  associates (judges j k) = ap (judges j) (associates k)
  associates (starts_anew k) = ap starts_anew (associates k)
  associates (requires_or d e k) = ap (requires_or d e) (associates k)
  associates (closes n x t k) = λ i. closes n x t (λ σ. associates (k σ) i)
  associates (determines t e k) = λ i. determines t e (λ u. associates (k u) i)
  associates (makes_names ws k) = λ i. makes_names ws (λ ns. associates (k ns) i)
  associates (makes_datatypes C ds k) = λ i. makes_datatypes C ds (λ ns gs. associates (k ns gs) i)

-- a rule, and the rules after it

module _ (scope : Scope Name) (C : Env Name) (vs : Map (MlType Name)) (p : Place) (q : Pat Place) (e : Exp Place) (next : MlType Name → Script Place Name (MlType Name)) where
  abbrev from-pattern : Typed Name (MlType Name) → Script Place Name (MlType Name)
  from-pattern r = read_exp scope (with_bound C r.bound) vs e >>= λ t. next (arrow_of r.type t)

  pub rule-first : read_pat scope false C vs [] q >>= (λ r. require_bindings scope (pattern_place q) r.bound >>= λ u. from-pattern r) ≡ read_rule scope C vs (rule p q e) >>= next
  unfolding ◌>>=◌
  rule-first = sym (
      associates (λ r. read_exp scope (with_bound C r.bound) vs e >>= λ t. give (arrow_of r.type t)) next (read_rule_pattern scope C vs (rule p q e))
      ∙ (λ i. read_rule_pattern scope C vs (rule p q e) >>= λ r. associates (λ t. give (arrow_of r.type t)) next (read_exp scope (with_bound C r.bound) vs e) i)
      ∙ associates (λ r. require_bindings scope (pattern_place q) r.bound >>= λ u. give r) from-pattern (read_pat scope false C vs [] q)
      ∙ (λ i. read_pat scope false C vs [] q >>= λ r. associates (λ u. give r) from-pattern (require_bindings scope (pattern_place q) r.bound) i))

-- the rules of a match: the first one, whose type is made like that of those before, and then the others
pub rules-split : (scope : Scope Name) (C : Env Name) (vs : Map (MlType Name)) (first : Option (MlType Name)) (p : Place) (q : Pat Place) (e : Exp Place) (m : Rules Place)
    → read_rules scope C vs first (and_rule (rule p q e) m) ≡ read_rule scope C vs (rule p q e) >>= λ a. like_first scope p first a >>= λ f. read_rules scope C vs (Some f) m
unfolding read_rules
rules-split scope C vs first p q e m = rule-first scope C vs p q e (λ a. like_first scope p first a >>= λ f. read_rules scope C vs (Some f) m)
