-- Patterns that were read have no identifier whose path leads nowhere.
use Rattle.std.proofs.Common.{◌≡◌, List, [], ◌∷◌, Bool, true, false, Option, Some, None, refl}
use Rattle.std.specs.Prelude.{◌&&◌}
use mathlib.Core.Logic.{inl, inr}
use Rattle.sml_lex.specs.declared.fault.Code.{Code}
use Rattle.sml_lex.specs.declared.fault.Fault.{Fault}
use Rattle.sml_lex.specs.declared.fault.Place.{Place}
use Rattle.sml_tree.specs.Trees.{Id}
use Rattle.sml_tree.specs.Names.{LongName}
use Rattle.sml_tree.specs.Expressions.{Rules, and_rule, no_rule, rule}
use Rattle.sml_tree.specs.Patterns.{Pat, Pats, PatFields, wildcard, pat_constant, pat_name, pat_row, pat_tuple, pat_bracket, pat_apply, pat_typed, pat_as, no_pat, and_pat, pat_field, no_pat_field, and_pat_field}
use Rattle.sml_objects.specs.Initial.{Name}
use Rattle.sml_objects.specs.Maps.{Map, lookup}
use Rattle.sml_objects.specs.Objects.{MlType, MlTypes}
use Rattle.sml_rules.specs.Answers.{accepted}
use Rattle.sml_rules.specs.Lookups.{Found, found, no_entry, no_path, entry}
use Rattle.sml_rules.proofs.Sound.{not_refused}
use Rattle.sml_core_rules.specs.Objects.{Env, Value, values}
use Rattle.sml_core_rules.specs.Lookups.{find_at, value_at}
use Rattle.sml_core_rules.specs.Scripts.{IsAnswer, need}
use Rattle.sml_core_rules.specs.States.{Scope, State}
use Rattle.sml_core_rules.specs.Types.{Fields, put_field}
use Rattle.sml_core_rules.specs.Values.{find_value}
use Rattle.sml_core_rules.specs.Expressions.{like_first, read_exp, read_rules, require_bindings}
use Rattle.sml_core_rules.specs.Patterns.{Bindings, Typed, constructor_instance, found_constructor, is_empty, is_variable_alone, pattern_place, read_layered, read_pat, read_pats, read_pat_fields}
use Rattle.sml_core_rules.proofs.Accepted.{bind-accepted, taken}
use Rattle.sml_warnings.specs.Lost.{IsLost, StandsIn, StandsInAll, StandsInFields}
use Rattle.sml_core.specs.Rules.{NoneIsLost, with_bound}

-- a path that leads nowhere isn't empty
short-found : (C : Env Name) (path : List Id) (last : Id) (s : List Id) → is_empty path ≡ true → value_at C (record { path = path; last = last }) ≡ no_path s → ⊥
unfolding value_at find_at
short-found C [] last s e h = go (lookup last (values C)) h
  where
    go : (o : Option (Value Name)) → entry o ≡ no_path s → ⊥
    go None k = absurd cc
    go (Some v) k = absurd cc
short-found C (x ∷ path) last s e h = absurd cc

first-true : (b c : Bool) → (b && c) ≡ true → b ≡ true
first-true true c e = refl
first-true false c e = absurd cc

module _ (scope : Scope Name) (C : Env Name) where
  needed : (c : Code) (x : LongName Place) (f : Found (Value Name)) (s : State Place Name) (r : Value Name × State Place Name) → IsAnswer scope (need c x.place x.id f) s (accepted r) → (p : List Id) → f ≡ no_path p → ⊥
  unfolding IsAnswer
  needed c x (found v) s r h p e = absurd cc
  needed c x (no_path q) s r h p e = absurd (not_refused h)
  needed c x no_entry s r h p e = absurd cc

  constructed : (x : LongName Place) (f : Found (Value Name)) (s : State Place Name) (r : Value Name × State Place Name) → IsAnswer scope (found_constructor scope x f) s (accepted r) → (p : List Id) → f ≡ no_path p → ⊥
  unfolding IsAnswer
  constructed x (found v) s r h p e = absurd cc
  constructed x (no_path q) s r h p e = absurd (not_refused h)
  constructed x no_entry s r h p e = absurd cc

  module _ (is_rec : Bool) (vs : Map (MlType Name)) (g : Fault) where
    mutual
      unfolding read_pat read_pats read_pat_fields

      pub pat-none-lost : (q : Pat Place) (bs : Bindings Name) (s : State Place Name) (r : Typed Name (MlType Name) × State Place Name) → IsAnswer scope (read_pat scope is_rec C vs bs q) s (accepted r)
          → StandsIn (IsLost C g) q → ⊥
      pat-none-lost (wildcard p) bs s r h l = l
      pat-none-lost (pat_constant p c) bs s r h l = l
      pat-none-lost (pat_name p x) bs s r h l = elim (taken scope (is_empty x.id.path) (is_variable_alone is_rec C x.id.last) _ _ s r h) [
        | inl k ↦ short-found C x.id.path x.id.last l.0 (first-true (is_empty x.id.path) (is_variable_alone is_rec C x.id.last) k.0) l.1
        | inr k ↦ let b = bind-accepted scope (find_value C x) _ s r k.1 in needed _ x (value_at C x.id) s b.0 b.1 l.0 l.1
      ]
      pat-none-lost (pat_row p fs b) bs s r h l = let c = bind-accepted scope (read_pat_fields scope is_rec C vs bs [] fs) _ s r h in fields-none-lost fs bs [] s c.0 c.1 l
      pat-none-lost (pat_tuple p qs) bs s r h l = let c = bind-accepted scope (read_pats scope is_rec C vs bs qs) _ s r h in pats-none-lost qs bs s c.0 c.1 l
      pat-none-lost (pat_bracket p q) bs s r h l = pat-none-lost q bs s r h l
      pat-none-lost (pat_apply p x q) bs s r h (inl l) = let b = bind-accepted scope (found_constructor scope x (value_at C x.id)) _ s r h in constructed x (value_at C x.id) s b.0 b.1 l.0 l.1
      pat-none-lost (pat_apply p x q) bs s r h (inr l) =
          let b = bind-accepted scope (found_constructor scope x (value_at C x.id)) _ s r h in
          let c = bind-accepted scope (constructor_instance scope p x.place true b.0.0) _ b.0.1 r b.2 in
          let d = bind-accepted scope (read_pat scope is_rec C vs bs q) _ c.0.1 r c.2 in
          pat-none-lost q bs c.0.1 d.0 d.1 l
      pat-none-lost (pat_typed p q ty) bs s r h l = let c = bind-accepted scope (read_pat scope is_rec C vs bs q) _ s r h in pat-none-lost q bs s c.0 c.1 l
      pat-none-lost (pat_as p x ty q) bs s r h l =
          let c = bind-accepted scope (read_layered scope is_rec C vs x ty bs) _ s r h in
          let d = bind-accepted scope (read_pat scope is_rec C vs c.0.0.bound q) _ c.0.1 r c.2 in
          pat-none-lost q c.0.0.bound c.0.1 d.0 d.1 l

      pats-none-lost : (qs : Pats Place) (bs : Bindings Name) (s : State Place Name) (r : Typed Name (MlTypes Name) × State Place Name) → IsAnswer scope (read_pats scope is_rec C vs bs qs) s (accepted r)
          → StandsInAll (IsLost C g) qs → ⊥
      pats-none-lost no_pat bs s r h l = l
      pats-none-lost (and_pat q qs) bs s r h (inl l) = let c = bind-accepted scope (read_pat scope is_rec C vs bs q) _ s r h in pat-none-lost q bs s c.0 c.1 l
      pats-none-lost (and_pat q qs) bs s r h (inr l) =
          let c = bind-accepted scope (read_pat scope is_rec C vs bs q) _ s r h in
          let d = bind-accepted scope (read_pats scope is_rec C vs c.0.0.bound qs) _ c.0.1 r c.2 in
          pats-none-lost qs c.0.0.bound c.0.1 d.0 d.1 l

      fields-none-lost : (qs : PatFields Place) (bs : Bindings Name) (fs : Fields (MlType Name)) (s : State Place Name) (r : Typed Name (Fields (MlType Name)) × State Place Name)
          → IsAnswer scope (read_pat_fields scope is_rec C vs bs fs qs) s (accepted r) → StandsInFields (IsLost C g) qs → ⊥
      fields-none-lost no_pat_field bs fs s r h l = l
      fields-none-lost (and_pat_field (pat_field x q) qs) bs fs s r h (inl l) = let c = bind-accepted scope (read_pat scope is_rec C vs bs q) _ s r h in pat-none-lost q bs s c.0 c.1 l
      fields-none-lost (and_pat_field (pat_field x q) qs) bs fs s r h (inr l) =
          let c = bind-accepted scope (read_pat scope is_rec C vs bs q) _ s r h in
          fields-none-lost qs c.0.0.bound (put_field x.id c.0.0.type fs) c.0.1 r c.2 l

-- of a match that was read
pub none-lost : (scope : Scope Name) (C : Env Name) (vs : Map (MlType Name)) (first : Option (MlType Name)) (m : Rules Place) (s : State Place Name) (r : MlType Name × State Place Name)
    → IsAnswer scope (read_rules scope C vs first m) s (accepted r) → NoneIsLost C m
unfolding read_rules
none-lost scope C vs first no_rule s r h g l = l
none-lost scope C vs first (and_rule (rule p q e) m) s r h g (inl l) = let c = bind-accepted scope (read_pat scope false C vs [] q) _ s r h in pat-none-lost scope C false vs g q [] s c.0 c.1 l
none-lost scope C vs first (and_rule (rule p q e) m) s r h g (inr l) =
    let c = bind-accepted scope (read_pat scope false C vs [] q) _ s r h in
    let d = bind-accepted scope (require_bindings scope (pattern_place q) c.0.0.bound) _ c.0.1 r c.2 in
    let f = bind-accepted scope (read_exp scope (with_bound C c.0.0.bound) vs e) _ d.0.1 r d.2 in
    let k = bind-accepted scope (like_first scope p first _) _ f.0.1 r f.2 in
    none-lost scope C vs (Some k.0.0) m k.0.1 r k.2 g l
