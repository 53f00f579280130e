-- Steps of scripts that leave the window as it was, and keep a state well made.
use Rattle.std.specs.Prelude.{◌≡◌, ◌+◌, ◌≤◌, ℕ, Bool, true, false, cond, List, [], ◌∷◌}
use Rattle.std.proofs.Common.{arith}
use mathlib.Core.Path.{refl, sym, ap, subst, ◌∙◌}
use mathlib.Core.Logic.{inl, inr}
use Rattle.sml_lex.specs.Faults.{Fault}
use Rattle.sml_objects.specs.Names.{Attributes}
use Rattle.sml_objects.specs.Objects.{Head, name}
use Rattle.sml_objects.specs.Appearance.{Stands}
use Rattle.sml_objects.proofs.Standing.{left, right}
use Rattle.sml_layers.specs.Demands.{Demand}
use Rattle.sml_rules.specs.Answers.{Answer, refused, accepted}
use Rattle.sml_rules.proofs.Sound.{accepted_same, not_refused}
use Rattle.sml_core_rules.specs.Objects.{Env}
use Rattle.sml_core_rules.specs.Scripts.{Script, give, refuse, requires_or, ◌>>=◌, look, test, new_unknowns, new_names, so_far, IsAnswer}
use Rattle.sml_core_rules.specs.States.{Scope, State, Window, AreMade, with_demand, with_made}
use Rattle.sml_core_rules.proofs.Accepted.{bind-accepted}
use Rattle.sml_core_laws.specs.Made.{IsDemandIn, IsGrown}
use Rattle.sml_core_laws.proofs.MadeShapes.{IsShape}
use Rattle.sml_core_laws.proofs.MadeScripts.{Known, Leads, Done, unchanged, onwards, grown-well, makes}
use Rattle.sml_module_laws.specs.Made.{IsBodyIn}
use Rattle.sml_module_laws.proofs.Bodies.{body-more}
use Rattle.sml_module_laws.proofs.Realised.{IsExact, AreNamed}

-- what is known before: the state is well made, with this window
pub record Ready {P N : Type 0} (S : Head N → ℕ → Type 0) (scope : Scope N) (w : Window P N) (s : State P N) : Type 0 where
  pub exact : IsExact scope.names S
  pub known : Known S scope s
  pub window : s.window ≡ w

module _ {P N : Type 0} (S : Head N → ℕ → Type 0) (scope : Scope N) (w : Window P N) where
  -- In such a state the script leaves one in which more was made, and gives an object of which this holds there.
  pub record Goes {X : Type 0} (s : State P N) (m : Script P N X) (Q : X → State P N → Type 0) : Type 0 where
    pub ends : Ready S scope w s → (r : X × State P N) → IsAnswer scope m s (accepted r) → Ready S scope w r.1 × IsGrown s r.1 × Q r.0 r.1

module _ {P N : Type 0} (S : Head N → ℕ → Type 0) where
  abbrev pub BodyAt : Env N → State P N → Type 0
  BodyAt E s = IsBodyIn S s.names E

  pub body-up : {s t : State P N} → IsGrown s t → (E : Env N) → BodyAt E s → BodyAt E t
  body-up {s} {t} g E h = body-more S s.names t.names g.names E h

-- new names, each with the arity that is asked for
named : {N : Type 0} (S : Head N → ℕ → Type 0) (scope : Scope N) (shape : IsShape scope.names S) (names old : List N) (ws : List Attributes) (ns : List N) → AreMade scope old ws ns → ((n : N) → Stands n ns → Stands n names) → AreNamed scope.names S names ws ns
unfolding AreMade Stands
named S scope shape names old [] ns h own = tt
named {N} S scope shape names old (a ∷ ws) ns (n, rest, o, i, c, h, e) own =
    let here : (m : N) → Stands m (n ∷ rest) → Stands m names = λ m k. own m (subst (Stands m) (sym e) k) in
    subst (AreNamed scope.names S names (a ∷ ws)) (sym e)
    ((here n (inl refl), subst (S (name n)) (ap (λ w. w.arity) c) (shape.named n)), named S scope shape names (n ∷ old) ws rest h (λ m k. here m (inr k)))

module _ {P N : Type 0} {S : Head N → ℕ → Type 0} {scope : Scope N} {w : Window P N} where
  pub first : {X Y : Type 0} {s : State P N} {m : Script P N X} {f : X → Script P N Y} {Q : X → State P N → Type 0} {R : Y → State P N → Type 0} → Goes S scope w s m Q
      → ((x : X) (t : State P N) → IsGrown s t → Q x t → Goes S scope w t (f x) R) → Goes S scope w s (m >>= f) R
  first {X} {Y} {s} {m} {f} {Q} {R} h k = record {
    ends = λ y r a.
        let b = bind-accepted scope m f s r a in
        let c = h.ends y b.0 b.1 in
        let next : Goes S scope w b.0.1 (f b.0.0) R = k b.0.0 b.0.1 c.1 c.2 in
        let d = next.ends c.0 r b.2 in (d.0, onwards c.1 d.1, d.2);
  }

  -- what is known of the state before
  pub knows : {X : Type 0} {s : State P N} {m : Script P N X} {Q : X → State P N → Type 0} → (Ready S scope w s → Goes S scope w s m Q) → Goes S scope w s m Q
  knows h = record { ends = λ y. let k = h y in k.ends y }

  pub gives : {X : Type 0} {s : State P N} {x : X} {Q : X → State P N → Type 0} → Q x s → Goes S scope w s (give x) Q
  unfolding IsAnswer
  gives {X} {s} {x} {Q} q = record { ends = λ y r a. subst (λ r. Ready S scope w r.1 × IsGrown s r.1 × Q r.0 r.1) (sym (accepted_same a)) (y, unchanged, q) }

  pub refuses : {X : Type 0} {s : State P N} {f : Fault P} {Q : X → State P N → Type 0} → Goes S scope w s (refuse f) Q
  unfolding IsAnswer
  refuses = record { ends = λ y r a. absurd (not_refused a) }

  pub looks : {X : Type 0} {s : State P N} {Q : X → State P N → Type 0} (a : Answer P X) → ((x : X) → a ≡ accepted x → Q x s) → Goes S scope w s (look a) Q
  looks (refused f) q = refuses
  looks (accepted x) q = gives (q x refl)

  pub chooses : {X : Type 0} {s : State P N} {k j : Script P N X} {Q : X → State P N → Type 0} (b : Bool) → Goes S scope w s k Q → Goes S scope w s j Q → Goes S scope w s (cond b k j) Q
  chooses true h i = h
  chooses false h i = i

  -- a condition that is asked for
  pub checks : {s : State P N} {C : Type 0} {f : Fault P} → Goes S scope w s (test C f) (λ u t. C)
  unfolding IsAnswer
  checks {s} {C} {f} = record { ends = λ y r a. go y r a }
    where
      go : Ready S scope w s → (r : Unit {0} × State P N) → IsAnswer scope (test C f) s (accepted r) → Ready S scope w r.1 × IsGrown s r.1 × C
      go y r (inl h) = let g : Goes S scope w s (give tt) (λ u t. C) = gives h.0 in g.ends y r h.1
      go y r (inr h) = absurd (not_refused h.1)

  -- what is known of the core
  pub lifts : {X : Type 0} {s : State P N} {m : Script P N X} {Q : X → State P N → Type 0} → Leads S scope s m Q → ((r : X × State P N) → IsAnswer scope m s (accepted r) → r.1.window ≡ s.window) → Goes S scope w s m Q
  lifts h k = record { ends = λ y r a. let c = h.ends y.known r a in (record { exact = y.exact; known = c.0; window = k r a ∙ y.window }, c.1, c.2) }

  pub unknowns : {s : State P N} (n : ℕ) → Goes S scope w s (new_unknowns n) (λ k t. k + n ≤ t.made)
  unfolding IsAnswer
  unknowns n = lifts (makes n) (λ r a. ap (λ q. q.1.window) (accepted_same a))

  pub sees : {s : State P N} → Goes S scope w s so_far (λ x t. Unit {0})
  unfolding IsAnswer
  sees {s} = record { ends = λ y r a. let g : Goes S scope w s (give s) (λ x t. Unit {0}) = gives tt in g.ends y r a }

  pub requires : {s : State P N} {d : Demand N (List N)} {f : Fault P} → IsDemandIn S s.made s.names d → Goes S scope w s (requires_or d f (give tt)) Done
  unfolding IsAnswer
  requires {s} {d} {f} i = record { ends = λ y r a. go y r a }
    where
      go : Ready S scope w s → (r : Unit {0} × State P N) → IsAnswer scope (requires_or d f (give tt)) s (accepted r) → Ready S scope w r.1 × IsGrown s r.1 × Unit {0}
      go y r (inl h) =
          let known : Known S scope (with_demand d s) = record { shape = y.known.shape; well = record { initials = y.known.well.initials; demands = (i, y.known.well.demands); window = y.known.well.window; met = h.0 } } in
          let ready : Ready S scope w (with_demand d s) = record { exact = y.exact; known = known; window = y.window } in
          let g : Goes S scope w (with_demand d s) (give tt) Done = gives tt in
          let c = g.ends ready r h.1 in
          (c.0, onwards (record { made = omega arith; names = λ n h. h; stays_open = λ e. e }) c.1, tt)
      go y r (inr h) = absurd (not_refused h.1)

  pub makes-names : {s : State P N} (ws : List Attributes) → Goes S scope w s (new_names ws) (λ ns t. AreNamed scope.names S t.names ws ns)
  unfolding IsAnswer
  makes-names {s} ws = record { ends = λ y r a. go y r a }
    where
      go : Ready S scope w s → (r : List N × State P N) → IsAnswer scope (new_names ws) s (accepted r) → Ready S scope w r.1 × IsGrown s r.1 × AreNamed scope.names S r.1.names ws r.0
      go y r (ns, made, a) =
          let t : State P N = with_made ns s in
          let g : IsGrown s t = record { made = omega arith; names = λ n h. right n ns s.names h; stays_open = λ e. e } in
          let ready : Ready S scope w t = record { exact = y.exact; known = grown-well s t g refl refl y.known; window = y.window } in
          let given : Goes S scope w t (give ns) (λ ns t. AreNamed scope.names S t.names ws ns) = gives (named S scope y.known.shape t.names s.names ws ns made (λ n h. left n ns s.names h)) in
          let c = given.ends ready r a in (c.0, onwards g c.1, c.2)
