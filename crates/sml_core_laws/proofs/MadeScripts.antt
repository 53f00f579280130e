-- Scripts that keep a state well made, one after the other.
use Rattle.std.specs.Prelude.{◌≡◌, ◌<◌, ◌≤◌, ◌+◌, ℕ, Bool, true, false, cond, List, [], ◌∷◌, ◌++◌}
use Rattle.std.specs.List.{AllByRecursion}
use Rattle.std.proofs.Common.{arith}
use mathlib.Core.Path.{refl, sym, subst}
use mathlib.Core.Logic.{inl, inr}
use Rattle.sml_lex.specs.Faults.{Fault}
use Rattle.sml_objects.specs.Maps.{Map}
use Rattle.sml_objects.specs.Objects.{MlType, Scheme, free, Head}
use Rattle.sml_layers.specs.declared.layer.Layer.TheVariants.{Rigidity}
use Rattle.sml_layers.specs.Demands.{Demand, equal, has_fields, asks, CanBeMet}
use Rattle.sml_rules.specs.Answers.{Answer, refused, accepted}
use Rattle.sml_rules.proofs.Sound.{accepted_same, not_refused}
use Rattle.sml_core_rules.specs.Objects.{Env}
use Rattle.sml_core_rules.specs.Scripts.{Script, give, refuse, ◌>>=◌, look, test, where_so, new_unknown, new_unknowns, require, so_far, set_window, stay_open, judge, new_row, new_overloaded, close, IsAnswer}
use Rattle.sml_core_rules.specs.States.{Scope, State, Window, Judged, words, with_unknowns, with_demand, with_window}
use Rattle.sml_core_rules.specs.Values.{require_equal}
use Rattle.sml_core_rules.proofs.Accepted.{bind-accepted}
use Rattle.sml_core_laws.proofs.MadeShapes.{IsShape}
use Rattle.sml_core_laws.specs.Made.{Speaks, IsTypeIn, IsSchemeIn, IsEnvIn, AreTypesIn, IsDemandIn, IsWindowIn, IsWellMade, IsGrown}
use Rattle.sml_core_laws.proofs.MadeTypes.{all-more, all-join}
use Rattle.sml_core_laws.proofs.MadeEnvs.{type-more, env-more}
use Rattle.sml_core_laws.proofs.MadeClosing.{scheme-in}

module _ {P N : Type 0} where
  -- where nothing is given
  abbrev pub Done : Unit {0} → State P N → Type 0
  Done u s = Unit {0}

  abbrev pub Opened : Unit {0} → State P N → Type 0
  Opened u s = s.is_open ≡ true

  -- growing

  pub unchanged : {s : State P N} → IsGrown s s
  unchanged = record { made = omega arith; names = λ n h. h; stays_open = λ e. e }

  pub onwards : {s t u : State P N} → IsGrown s t → IsGrown t u → IsGrown s u
  onwards g h = record { made = (let l = g.made in let m = h.made in omega arith); names = λ n k. h.names n (g.names n k); stays_open = λ e. g.stays_open (h.stays_open e) }

  unknowns-grown : (n : ℕ) (s : State P N) → IsGrown s (with_unknowns n s)
  unknowns-grown n s = record { made = omega arith; names = λ n h. h; stays_open = λ e. e }

-- what speaks of what a state has made
module _ {P N : Type 0} (S : Head N → ℕ → Type 0) where
  abbrev pub TypeAt : MlType N → State P N → Type 0
  TypeAt t s = IsTypeIn S s.made s.names t

  abbrev pub TypesAt : Map (MlType N) → State P N → Type 0
  TypesAt ts s = AreTypesIn S s.made s.names ts

  abbrev pub EnvAt : Env N → State P N → Type 0
  EnvAt E s = IsEnvIn S s.made s.names E

  -- without unknowns
  abbrev pub NoneAt : Env N → State P N → Type 0
  NoneAt E s = IsEnvIn S 0 s.names E

  abbrev pub NoTypesAt : Map (MlType N) → State P N → Type 0
  NoTypesAt ts s = AreTypesIn S 0 s.names ts

  abbrev pub WindowAt : Window P N → State P N → Type 0
  WindowAt w s = IsWindowIn S s.made s.names w

  abbrev pub SchemeAt : Scheme N → State P N → Type 0
  SchemeAt σ s = IsSchemeIn S s.made s.names σ

  pub none-env : (s : State P N) (E : Env N) → NoneAt E s → EnvAt E s
  none-env s E h = env-more S 0 s.names s.made s.names (omega arith) (λ n k. k) E h

  module _ {s t : State P N} (g : IsGrown s t) where
    pub type-up : (u : MlType N) → TypeAt u s → TypeAt u t
    type-up u h = type-more S s.made s.names t.made t.names g.made g.names u h

    pub types-up : (us : Map (MlType N)) → TypesAt us s → TypesAt us t
    types-up us h = all-more (λ u. IsTypeIn S s.made s.names u.1) (λ u. IsTypeIn S t.made t.names u.1) (λ u k. type-up u.1 k) us h

    pub env-up : (E : Env N) → EnvAt E s → EnvAt E t
    env-up E h = env-more S s.made s.names t.made t.names g.made g.names E h

    pub none-up : (E : Env N) → NoneAt E s → NoneAt E t
    none-up E h = env-more S 0 s.names 0 t.names (omega arith) g.names E h

    pub no-types-up : (us : Map (MlType N)) → NoTypesAt us s → NoTypesAt us t
    no-types-up us h = all-more (λ u. IsTypeIn S 0 s.names u.1) (λ u. IsTypeIn S 0 t.names u.1) (λ u k. type-more S 0 s.names 0 t.names (omega arith) g.names u.1 k) us h

    demand-up : (d : Demand N (List N)) → IsDemandIn S s.made s.names d → IsDemandIn S t.made t.names d
    demand-up (equal u w) h = (type-up u h.0, type-up w h.1)
    demand-up (has_fields u fs) h = (type-up u h.0, types-up fs h.1)
    demand-up (asks a u) h = type-up u h

    demands-up : (ds : List (Demand N (List N))) → AllByRecursion (IsDemandIn S s.made s.names) ds → AllByRecursion (IsDemandIn S t.made t.names) ds
    demands-up ds h = all-more (IsDemandIn S s.made s.names) (IsDemandIn S t.made t.names) demand-up ds h

    pub window-up : (w : Window P N) → WindowAt w s → WindowAt w t
    window-up w h = (
      all-more (λ r. TypeAt r.1 s) (λ r. TypeAt r.1 t) (λ r k. type-up r.1 k) w.rows h.0,
      all-more (λ v. v < s.made) (λ v. v < t.made) (λ v l. let m = g.made in omega arith) w.overloaded h.1,
    )

-- What is known before: readings make the heads that are asked for, and the state is well made.
pub record Known {P N : Type 0} (S : Head N → ℕ → Type 0) (scope : Scope N) (s : State P N) : Type 0 where
  pub shape : IsShape scope.names S
  pub well : IsWellMade S scope s

module _ {P N : Type 0} (S : Head N → ℕ → Type 0) (scope : Scope N) where
  -- In a state that is well made the script leaves one in which more was made, and gives an object of which this holds there.
  pub record Leads {X : Type 0} (s : State P N) (m : Script P N X) (Q : X → State P N → Type 0) : Type 0 where
    pub ends : Known S scope s → (r : X × State P N) → IsAnswer scope m s (accepted r) → Known S scope r.1 × IsGrown s r.1 × Q r.0 r.1

module _ {P N : Type 0} {S : Head N → ℕ → Type 0} {scope : Scope N} where
  pub first : {X Y : Type 0} {s : State P N} {m : Script P N X} {f : X → Script P N Y} {Q : X → State P N → Type 0} {R : Y → State P N → Type 0} → Leads S scope s m Q
      → ((x : X) (t : State P N) → IsGrown s t → Q x t → Leads S scope t (f x) R) → Leads S scope s (m >>= f) R
  first {X} {Y} {s} {m} {f} {Q} {R} h k = record {
    ends = λ w r a.
        let b = bind-accepted scope m f s r a in
        let c = h.ends w b.0 b.1 in
        let next : Leads S scope b.0.1 (f b.0.0) R = k b.0.0 b.0.1 c.1 c.2 in
        let d = next.ends c.0 r b.2 in (d.0, onwards c.1 d.1, d.2);
  }

  pub gives : {X : Type 0} {s : State P N} {x : X} {Q : X → State P N → Type 0} → (Known S scope s → Q x s) → Leads S scope s (give x) Q
  unfolding IsAnswer
  gives {X} {s} {x} {Q} q = record { ends = λ w r a. subst (λ r. Known S scope r.1 × IsGrown s r.1 × Q r.0 r.1) (sym (accepted_same a)) (w, unchanged, q w) }

  -- what is known of the state before
  pub knows : {X : Type 0} {s : State P N} {m : Script P N X} {Q : X → State P N → Type 0} → (Known S scope s → Leads S scope s m Q) → Leads S scope s m Q
  knows h = record { ends = λ w. let k = h w in k.ends w }

  pub refuses : {X : Type 0} {s : State P N} {f : Fault P} {Q : X → State P N → Type 0} → Leads S scope s (refuse f) Q
  unfolding IsAnswer
  refuses = record { ends = λ w r a. absurd (not_refused a) }

  pub looks : {X : Type 0} {s : State P N} {Q : X → State P N → Type 0} (a : Answer P X) → ((x : X) → a ≡ accepted x → Q x s) → Leads S scope s (look a) Q
  looks (refused f) q = refuses
  looks (accepted x) q = gives (λ w. q x refl)

  pub chooses : {X : Type 0} {s : State P N} {k j : Script P N X} {Q : X → State P N → Type 0} (b : Bool) → (b ≡ true → Leads S scope s k Q) → (b ≡ false → Leads S scope s j Q)
      → Leads S scope s (cond b k j) Q
  chooses true h i = h refl
  chooses false h i = i refl

  -- less of what is given
  pub weakens : {X : Type 0} {s : State P N} {m : Script P N X} {Q R : X → State P N → Type 0} → Leads S scope s m Q → ((x : X) (t : State P N) → IsGrown s t → Q x t → R x t) → Leads S scope s m R
  weakens h f = record { ends = λ w r a. let c = h.ends w r a in (c.0, c.1, f r.0 r.1 c.1 c.2) }

  pub tests : {s : State P N} {C : Type 0} {f : Fault P} → Leads S scope s (test C f) Done
  unfolding IsAnswer
  tests {s} {C} {f} = record { ends = λ w r a. go w r a }
    where
      go : Known S scope s → (r : Unit {0} × State P N) → IsAnswer scope (test C f) s (accepted r) → Known S scope r.1 × IsGrown s r.1 × Unit {0}
      go w r (inl h) = (gives {Q = Done} (λ w. tt)).ends w r h.1
      go w r (inr h) = absurd (not_refused h.1)

  pub where-so : {s : State P N} {C : Type 0} {k : Script P N (Unit {0})} → Leads S scope s k Done → Leads S scope s (where_so C k) Done
  unfolding IsAnswer
  where-so {s} {C} {k} i = record { ends = λ w r a. go w r a }
    where
      go : Known S scope s → (r : Unit {0} × State P N) → IsAnswer scope (where_so C k) s (accepted r) → Known S scope r.1 × IsGrown s r.1 × Unit {0}
      go w r (inl h) = i.ends w r h.1
      go w r (inr h) = (gives {Q = Done} (λ w. tt)).ends w r h.1

  -- a state in which more was made, and nothing else
  pub grown-well : (s t : State P N) → IsGrown s t → t.demands ≡ s.demands → t.window ≡ s.window → Known S scope s → Known S scope t
  grown-well s t g d e w = record {
    shape = w.shape;
    well = record {
      initials = λ k. g.names (scope.names.initial k) (w.well.initials k);
      demands = subst (AllByRecursion (IsDemandIn S t.made t.names)) (sym d) (demands-up S g s.demands w.well.demands);
      window = subst (IsWindowIn S t.made t.names) (sym e) (window-up S g s.window w.well.window);
      met = subst (CanBeMet (words scope) Rigidity) (sym d) w.well.met;
    };
  }

  -- a script that goes on in another state
  pub continues : {X : Type 0} {Q : X → State P N → Type 0} (s t : State P N) (m : Script P N X) → IsGrown s t → (Known S scope s → Known S scope t) → Leads S scope t m Q
      → Known S scope s → (r : X × State P N) → IsAnswer scope m t (accepted r) → Known S scope r.1 × IsGrown s r.1 × Q r.0 r.1
  continues s t m g f h w r a = let c = h.ends (f w) r a in (c.0, onwards g c.1, c.2)

  -- so many unknowns, from a number on
  pub makes : {s : State P N} (n : ℕ) → Leads S scope s (new_unknowns n) (λ k t. k + n ≤ t.made)
  unfolding IsAnswer
  makes {s} n = record { ends = continues s (with_unknowns n s) (give s.made) (unknowns-grown n s) (grown-well s (with_unknowns n s) (unknowns-grown n s) refl refl) (gives (λ w. omega arith)) }

  pub makes-one : {s : State P N} → Leads S scope s new_unknown (TypeAt S)
  unfolding IsAnswer Speaks
  makes-one {s} = record { ends = continues s (with_unknowns 1 s) (give (free s.made)) (unknowns-grown 1 s) (grown-well s (with_unknowns 1 s) (unknowns-grown 1 s) refl refl) (gives (λ w. omega arith)) }

  pub requires : {s : State P N} {d : Demand N (List N)} {p : P} → IsDemandIn S s.made s.names d → Leads S scope s (require d p) Done
  unfolding IsAnswer
  requires {s} {d} {p} i = record { ends = λ w r a. go w r a }
    where
      go : Known S scope s → (r : Unit {0} × State P N) → IsAnswer scope (require d p) s (accepted r) → Known S scope r.1 × IsGrown s r.1 × Unit {0}
      go w r (inl h) =
          continues {Q = Done} s (with_demand d s) (give tt) (record { made = omega arith; names = λ n h. h; stays_open = λ e. e })
          (λ w. record { shape = w.shape; well = record { initials = w.well.initials; demands = (i, w.well.demands); window = w.well.window; met = h.0 } }) (gives (λ w. tt)) w r h.1
      go w r (inr h) = absurd (not_refused h.2)

  pub equals : {s : State P N} {p : P} {t u : MlType N} → TypeAt S t s → TypeAt S u s → Leads S scope s (require_equal p t u) Done
  equals h k = requires (h, k)

  pub sets : {s : State P N} {v : Window P N} → IsWindowIn S s.made s.names v → Leads S scope s (set_window v) Done
  unfolding IsAnswer
  sets {s} {v} i = record {
    ends = continues s (with_window v s) (give tt) (record { made = omega arith; names = λ n h. h; stays_open = λ e. e })
        (λ w. record { shape = w.shape; well = record { initials = w.well.initials; demands = w.well.demands; window = i; met = w.well.met } }) (gives (λ w. tt));
  }

  pub opens : {s : State P N} → Leads S scope s stay_open Opened
  unfolding IsAnswer
  opens {s} = record {
    ends = continues {Q = Opened} s (record s { is_open = true }) (give tt) (record { made = omega arith; names = λ n h. h; stays_open = λ e. let f : true ≡ false = e in absurd cc })
        (λ w. record { shape = w.shape; well = record { initials = w.well.initials; demands = w.well.demands; window = w.well.window; met = w.well.met } }) (gives (λ w. refl));
  }

  pub judges : {s : State P N} {j : Judged P} → Leads S scope s (judge j) Done
  unfolding IsAnswer
  judges {s} {j} = record {
    ends = continues s (record s { judged = j ∷ s.judged }) (give tt) (record { made = omega arith; names = λ n h. h; stays_open = λ e. e })
        (λ w. record { shape = w.shape; well = record { initials = w.well.initials; demands = w.well.demands; window = w.well.window; met = w.well.met } }) (gives (λ w. tt));
  }

  -- the state, of which the window is looked at
  pub sees : {s : State P N} → Leads S scope s so_far (λ x t. WindowAt S x.window t)
  unfolding IsAnswer
  sees {s} = record { ends = λ w r a. (gives {x = s} {Q = λ x t. WindowAt S x.window t} (λ w. w.well.window)).ends w r a }

  pub rows : {s : State P N} {p : P} {t : MlType N} → TypeAt S t s → Leads S scope s (new_row p t) Done
  unfolding IsAnswer
  rows {s} {p} {t} h = record {
    ends = λ w r a.
        (sets {s = s} {v = record s.window { rows = s.window.rows ++ (p, t) ∷ [] }} (all-join (λ r. TypeAt S r.1 s) s.window.rows ((p, t) ∷ []) w.well.window.0 (h, tt), w.well.window.1)).ends w r a;
  }

  pub overloads : {s : State P N} {v : ℕ} → v < s.made → Leads S scope s (new_overloaded v) Done
  unfolding IsAnswer
  overloads {s} {v} l = record {
    ends = λ w r a.
        (sets {s = s} {v = record s.window { overloaded = s.window.overloaded ++ v ∷ [] }} (w.well.window.0, all-join (λ v. v < s.made) s.window.overloaded (v ∷ []) w.well.window.1 (l, tt))).ends w r a;
  }

  pub closes : {s : State P N} {n : ℕ} {x : Bool} {t : MlType N} → TypeAt S t s → Leads S scope s (close n x t) (SchemeAt S)
  unfolding IsAnswer
  closes {s} {n} {x} {t} h = record {
    ends = λ w r a.
        (gives {x = a.0} {Q = SchemeAt S} (λ w. scheme-in scope S w.shape s n x t a.0 w.well h a.1)).ends w r a.2;
  }
