-- Scripts that have the same answers, but for places.
use Rattle.std.specs.Prelude.{◌≡◌, ◌↔◌, ℕ, Bool, List, map}
use mathlib.Core.Path.{refl, sym, ap, subst}
use mathlib.Core.Logic.{inl, inr}
use Rattle.sml_lex.specs.Faults.{Fault}
use Rattle.sml_objects.specs.Names.{Attributes}
use Rattle.sml_objects.specs.Objects.{MlType, MlTypes, Scheme, bound, free, app, no_type, and_type}
use Rattle.sml_layers.specs.Demands.{Demand}
use Rattle.sml_layers.specs.Layers.{code_of}
use Rattle.sml_rules.specs.Answers.{Answer, refused, accepted, fault}
use Rattle.sml_rules.proofs.Sound.{accepted_same, not_refused}
use Rattle.sml_core_rules.specs.States.{Scope, State, Window, Judged, with_unknowns, with_made, with_demand, with_window, with_judged, opened, afresh}
use Rattle.sml_core_rules.specs.Solutions.{MayBe, HasOneSetOfLabels, IsOfLeft, AreOfLeft, StandsFor, IsFixed, IsInt, AsksEquality, IsScheme, StandsForSmall}
use Rattle.sml_core_rules.specs.Scripts.{Script, give, refuse, tests, either, makes_unknowns, requires, sees, sets_window, stays_open, judges, starts_anew, requires_or, closes, makes_names, ◌>>=◌, IsAnswer}
use Rattle.sml_core_rules.proofs.Accepted.{bind-accepted, bind-joined}
use Rattle.sml_core_rules.proofs.Refused.{bind-refused, bind-split, refused-same}
use Rattle.sml_places.specs.Answers.{place_fault, place_judged}

-- states and answers with other places

module _ {P Q N : Type 0} (f : P → Q) where
  abbrev pub place_rows : List (P × MlType N) → List (Q × MlType N)
  place_rows rs = map (λ r. (f r.0, r.1)) rs

  abbrev pub place_window : Window P N → Window Q N
  place_window w = record { rows = place_rows w.rows; overloaded = w.overloaded }

  abbrev pub place_state : State P N → State Q N
  place_state s = record { made = s.made; names = s.names; demands = s.demands; window = place_window s.window; is_open = s.is_open; judged = map (place_judged f) s.judged }

  abbrev pub place_reply : {X Y : Type 0} → (X → Y) → Answer P (X × State P N) → Answer Q (Y × State Q N)
  place_reply g (refused e) = refused (place_fault f e)
  place_reply g (accepted r) = accepted (g r.0, place_state r.1)

module _ {P Q N : Type 0} (scope : Scope N) (f : P → Q) where
  -- The answers to the second script are the answers to the first with other places, from each state and from it with other places.
  pub record AreAlike {X Y : Type 0} (g : X → Y) (k : Script P N X) (j : Script Q N Y) : Type 0 where
    pub given : (s : State P N) (o : Answer P (X × State P N)) → IsAnswer scope k s o → IsAnswer scope j (place_state f s) (place_reply f g o)
    pub taken : (s : State P N) (o : Answer Q (Y × State Q N)) → IsAnswer scope j (place_state f s) o → (a : Answer P (X × State P N)) × IsAnswer scope k s a × (o ≡ place_reply f g a)

  -- with the same result
  abbrev pub AreSame : {X : Type 0} → Script P N X → Script Q N X → Type 0
  AreSame k j = AreAlike (λ x. x) k j

  -- schemes speak of no place

  mutual
    unfolding IsOfLeft AreOfLeft MayBe HasOneSetOfLabels

    left-same : (s : State P N) (t : MlType N) → IsOfLeft scope (place_state f s) t ≡ IsOfLeft scope s t
    left-same s (bound k) = refl
    left-same s (free v) = refl
    left-same s (app h ts) = lefts-same s ts

    lefts-same : (s : State P N) (ts : MlTypes N) → AreOfLeft scope (place_state f s) ts ≡ AreOfLeft scope s ts
    lefts-same s no_type = refl
    lefts-same s (and_type t ts) = λ i. left-same s t i × lefts-same s ts i

  pub small-same : (s : State P N) (t : MlType N) → StandsForSmall scope s t ↔ StandsForSmall scope (place_state f s) t
  unfolding StandsFor MayBe HasOneSetOfLabels
  small-same s t = (
    λ h. (h.0, (coe 1 0 (i. left-same s h.0 i) h.1.0, h.1.1), h.2),
    λ h. (h.0, (coe 0 1 (i. left-same s h.0 i) h.1.0, h.1.1), h.2),
  )

  scheme-same : (s : State P N) (n : ℕ) (x : Bool) (t : MlType N) (σ : Scheme N) → IsScheme scope s n x t σ ↔ IsScheme scope (place_state f s) n x t σ
  unfolding IsScheme StandsFor IsFixed IsInt AsksEquality MayBe HasOneSetOfLabels
  scheme-same s n x t σ = (
    λ h. (h.0, (coe 1 0 (i. left-same s h.0 i) h.1.0, h.1.1), h.2, h.3, h.4),
    λ h. (h.0, (coe 0 1 (i. left-same s h.0 i) h.1.0, h.1.1), h.2, h.3, h.4),
  )

module _ {P Q N : Type 0} {scope : Scope N} {f : P → Q} where
  module _ {X Y Z W : Type 0} (g : X → Y) (h : Z → W) (k : Script P N X) (j : Script Q N Y) (n : X → Script P N Z) (m : Y → Script Q N W) (a : AreAlike scope f g k j)
      (b : (x : X) → AreAlike scope f h (n x) (m (g x))) where
    then-given : (s : State P N) (o : Answer P (Z × State P N)) → IsAnswer scope (k >>= n) s o → IsAnswer scope (j >>= m) (place_state f s) (place_reply f h o)
    then-given s (refused e) r = elim (bind-split scope k n s e r) [
      | inl q ↦ bind-refused scope j m (place_state f s) (place_fault f e) (a.given s (refused e) q)
      | inr q ↦ bind-joined scope j m (place_state f s) (g q.0.0, place_state f q.0.1) (refused (place_fault f e)) (a.given s (accepted q.0) q.1) ((b q.0.0).given q.0.1 (refused e) q.2)
    ]
    then-given s (accepted r) t =
        let q = bind-accepted scope k n s r t in
        bind-joined scope j m (place_state f s) (g q.0.0, place_state f q.0.1) (place_reply f h (accepted r)) (a.given s (accepted q.0) q.1) ((b q.0.0).given q.0.1 (accepted r) q.2)

    Found : State P N → Answer Q (W × State Q N) → Type 0
    Found s o = (q : Answer P (Z × State P N)) × IsAnswer scope (k >>= n) s q × (o ≡ place_reply f h q)

    -- what comes then is answered so
    then-found : (s : State P N) (o : Answer Q (W × State Q N)) (c : Answer P (X × State P N)) → IsAnswer scope k s c → (q : Y × State Q N) → accepted q ≡ place_reply f g c
        → IsAnswer scope (m q.0) q.1 o → Found s o
    unfolding Found
    then-found s o (refused e) c q u v = absurd (not_refused u)
    then-found s o (accepted r) c q u v =
        let t = (b r.0).taken r.1 o (subst (λ q. IsAnswer scope (m q.0) q.1 o) (accepted_same u) v) in (t.0, bind-joined scope k n s r t.0 c t.1, t.2)

    first-refused : (s : State P N) (e : Fault Q) (c : Answer P (X × State P N)) → IsAnswer scope k s c → refused e ≡ place_reply f g c → Found s (refused e)
    unfolding Found
    first-refused s e (refused d) c u = (refused d, bind-refused scope k n s d c, ap refused (refused-same u))
    first-refused s e (accepted r) c u = absurd (not_refused (sym u))

    then-taken : (s : State P N) (o : Answer Q (W × State Q N)) → IsAnswer scope (j >>= m) (place_state f s) o → Found s o
    then-taken s (refused e) r = elim (bind-split scope j m (place_state f s) e r) [
      | inl q ↦ let c = a.taken s (refused e) q in first-refused s e c.0 c.1 c.2
      | inr q ↦ let c = a.taken s (accepted q.0) q.1 in then-found s (refused e) c.0 c.1 q.0 c.2 q.2
    ]
    then-taken s (accepted r) t =
        let q = bind-accepted scope j m (place_state f s) r t in
        let c = a.taken s (accepted q.0) q.1 in then-found s (accepted r) c.0 c.1 q.0 c.2 q.2

    both-then : AreAlike scope f h (k >>= n) (j >>= m)
    unfolding Found
    both-then = record { given = then-given; taken = then-taken }

  -- one after the other
  pub alike-then : {X Z W : Type 0} {h : Z → W} {k : Script P N X} {j : Script Q N X} {n : X → Script P N Z} {m : X → Script Q N W} → AreSame scope f k j
      → ((x : X) → AreAlike scope f h (n x) (m x)) → AreAlike scope f h (k >>= n) (j >>= m)
  alike-then {h = h} {k = k} {j = j} {n = n} {m = m} a b = both-then (λ x. x) h k j n m a b

  pub alike-with : {X Y Z W : Type 0} {g : X → Y} {h : Z → W} {k : Script P N X} {j : Script Q N Y} {n : X → Script P N Z} (m : Y → Script Q N W) → AreAlike scope f g k j
      → ((x : X) → AreAlike scope f h (n x) (m (g x))) → AreAlike scope f h (k >>= n) (j >>= m)
  alike-with {g = g} {h = h} {k = k} {j = j} {n = n} m a b = both-then g h k j n m a b

  -- an object, or a fault

  pub alike-give : {X Y : Type 0} {g : X → Y} (x : X) → AreAlike scope f g (give x) (give (g x))
  unfolding IsAnswer
  alike-give {g = g} x = record { given = λ s o h. ap (place_reply f g) h; taken = λ s o h. (accepted (x, s), refl, h) }

  pub alike-refuse : {X Y : Type 0} {g : X → Y} (e : Fault P) → AreAlike scope f g (refuse e) (refuse (place_fault f e))
  unfolding IsAnswer
  alike-refuse {g = g} e = record { given = λ s o h. ap (place_reply f g) h; taken = λ s o h. (refused e, refl, h) }

  -- conditions that hold alike

  pub alike-tests : {X Y : Type 0} {g : X → Y} {C D : Type 0} {k : Script P N X} {j : Script Q N Y} → (C ↔ D) → (e : Fault P) → AreAlike scope f g k j → AreAlike scope f g (tests C e k) (tests D (place_fault f e) j)
  unfolding IsAnswer
  alike-tests {g = g} c e a = record {
    given = λ s o. elim [ inl x ↦ inl (c.0 x.0, a.given s o x.1) | inr x ↦ inr ((λ y. x.0 (c.1 y)), ap (place_reply f g) x.1) ];
    taken = λ s o. elim [ inl x ↦ let b = a.taken s o x.1 in (b.0, inl (c.1 x.0, b.1), b.2) | inr x ↦ (refused e, inr ((λ y. x.0 (c.0 y)), refl), x.1) ];
  }

  pub alike-either : {X Y : Type 0} {g : X → Y} {C D : Type 0} {k l : Script P N X} {j m : Script Q N Y} → (C ↔ D) → AreAlike scope f g k j → AreAlike scope f g l m → AreAlike scope f g (either C k l) (either D j m)
  unfolding IsAnswer
  alike-either {g = g} c a b = record {
    given = λ s o. elim [ inl x ↦ inl (c.0 x.0, a.given s o x.1) | inr x ↦ inr ((λ y. x.0 (c.1 y)), b.given s o x.1) ];
    taken = λ s o. elim [ inl x ↦ let t = a.taken s o x.1 in (t.0, inl (c.1 x.0, t.1), t.2) | inr x ↦ let t = b.taken s o x.1 in (t.0, inr ((λ y. x.0 (c.0 y)), t.1), t.2) ];
  }

  -- what is made, asked, seen and set

  pub alike-unknowns : {X Y : Type 0} {g : X → Y} (n : ℕ) {k : ℕ → Script P N X} {j : ℕ → Script Q N Y} → ((v : ℕ) → AreAlike scope f g (k v) (j v)) → AreAlike scope f g (makes_unknowns n k) (makes_unknowns n j)
  unfolding IsAnswer
  alike-unknowns n a = record {
    given = λ s o h. (a s.made).given (with_unknowns n s) o h;
    taken = λ s o h. (a s.made).taken (with_unknowns n s) o h;
  }

  pub alike-requires : {X Y : Type 0} {g : X → Y} (d : Demand N (List N)) (p : P) {k : Script P N X} {j : Script Q N Y} → AreAlike scope f g k j → AreAlike scope f g (requires d p k) (requires d (f p) j)
  unfolding IsAnswer
  alike-requires {g = g} d p a = record {
    given = λ s o. elim [ inl x ↦ inl (x.0, a.given (with_demand d s) o x.1) | inr x ↦ inr (x.0, x.1, ap (place_reply f g) x.2) ];
    taken = λ s o. elim [
      | inl x ↦ let b = a.taken (with_demand d s) o x.1 in (b.0, inl (x.0, b.1), b.2)
      | inr x ↦ (refused (fault (code_of x.0) p), inr (x.0, x.1, refl), x.2)
    ];
  }

  pub alike-sees : {X Y : Type 0} {g : X → Y} {k : State P N → Script P N X} (j : State Q N → Script Q N Y) → ((s : State P N) → AreAlike scope f g (k s) (j (place_state f s))) → AreAlike scope f g (sees k) (sees j)
  unfolding IsAnswer
  alike-sees j a = record { given = λ s o h. (a s).given s o h; taken = λ s o h. (a s).taken s o h }

  pub alike-sets : {X Y : Type 0} {g : X → Y} (w : Window P N) {k : Script P N X} {j : Script Q N Y} → AreAlike scope f g k j → AreAlike scope f g (sets_window w k) (sets_window (place_window f w) j)
  unfolding IsAnswer
  alike-sets w a = record { given = λ s o h. a.given (with_window w s) o h; taken = λ s o h. a.taken (with_window w s) o h }

  pub alike-open : {X Y : Type 0} {g : X → Y} {k : Script P N X} {j : Script Q N Y} → AreAlike scope f g k j → AreAlike scope f g (stays_open k) (stays_open j)
  unfolding IsAnswer
  alike-open a = record { given = λ s o h. a.given (opened s) o h; taken = λ s o h. a.taken (opened s) o h }

  pub alike-judges : {X Y : Type 0} {g : X → Y} (w : Judged P) {k : Script P N X} {j : Script Q N Y} → AreAlike scope f g k j → AreAlike scope f g (judges w k) (judges (place_judged f w) j)
  unfolding IsAnswer
  alike-judges w a = record { given = λ s o h. a.given (with_judged w s) o h; taken = λ s o h. a.taken (with_judged w s) o h }

  pub alike-anew : {X Y : Type 0} {g : X → Y} {k : Script P N X} {j : Script Q N Y} → AreAlike scope f g k j → AreAlike scope f g (starts_anew k) (starts_anew j)
  unfolding IsAnswer
  alike-anew a = record { given = λ s o h. a.given (afresh s) o h; taken = λ s o h. a.taken (afresh s) o h }

  pub alike-requires-or : {X Y : Type 0} {g : X → Y} (d : Demand N (List N)) (e : Fault P) {k : Script P N X} {j : Script Q N Y} → AreAlike scope f g k j → AreAlike scope f g (requires_or d e k) (requires_or d (place_fault f e) j)
  unfolding IsAnswer
  alike-requires-or {g = g} d e a = record {
    given = λ s o. elim [ inl x ↦ inl (x.0, a.given (with_demand d s) o x.1) | inr x ↦ inr (x.0, ap (place_reply f g) x.1) ];
    taken = λ s o. elim [ inl x ↦ let b = a.taken (with_demand d s) o x.1 in (b.0, inl (x.0, b.1), b.2) | inr x ↦ (refused e, inr (x.0, refl), x.1) ];
  }

  pub alike-names : {X Y : Type 0} {g : X → Y} (ws : List Attributes) {k : List N → Script P N X} {j : List N → Script Q N Y} → ((ns : List N) → AreAlike scope f g (k ns) (j ns)) → AreAlike scope f g (makes_names ws k) (makes_names ws j)
  unfolding IsAnswer
  alike-names ws a = record {
    given = λ s o h. (h.0, h.1, (a h.0).given (with_made h.0 s) o h.2);
    taken = λ s o h. let b = (a h.0).taken (with_made h.0 s) o h.2 in (b.0, (h.0, h.1, b.1), b.2);
  }

  pub alike-closes : {X Y : Type 0} {g : X → Y} (n : ℕ) (x : Bool) (t : MlType N) {k : Scheme N → Script P N X} {j : Scheme N → Script Q N Y} → ((σ : Scheme N) → AreAlike scope f g (k σ) (j σ)) → AreAlike scope f g (closes n x t k) (closes n x t j)
  unfolding IsAnswer
  alike-closes n x t a = record {
    given = λ s o h. (h.0, (scheme-same scope f s n x t h.0).0 h.1, (a h.0).given s o h.2);
    taken = λ s o h. let b = (a h.0).taken s o h.2 in (b.0, (h.0, (scheme-same scope f s n x t h.0).1 h.1, b.1), b.2);
  }
