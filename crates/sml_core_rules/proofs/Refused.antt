-- Answers that are faults: what scripts in sequence are made of.
use Rattle.std.specs.Prelude.{◌≡◌, ◌⊎◌}
use mathlib.Core.Path.{refl, sym, ap}
use mathlib.Core.Logic.{inl, inr}
use Rattle.sml_lex.specs.Faults.{Fault}
use Rattle.sml_rules.specs.Answers.{Answer, refused, accepted}
use Rattle.sml_rules.proofs.Sound.{not_refused}
use Rattle.sml_core_rules.specs.States.{Scope, State, with_unknowns, with_made, with_demand, with_window, with_judged, opened, afresh}
use Rattle.sml_core_rules.specs.Scripts.{Script, give, refuse, tests, either, makes_unknowns, requires, sees, sets_window, stays_open, judges, starts_anew, requires_or, closes, determines, makes_names, makes_datatypes, ◌>>=◌, IsAnswer}

-- equal faults, of answers of any type

fault_or : {P X : Type 0} → Fault P → Answer P X → Fault P
fault_or d (refused e) = e
fault_or d (accepted x) = d

pub refused-same : {P X : Type 0} {d e : Fault P} → ◌≡◌ {A = Answer P X} (refused d) (refused e) → d ≡ e
unfolding fault_or
refused-same {d = d} h = ap (fault_or d) h

-- a fault is an answer to what comes first, or to what comes then

module _ {P N : Type 0} (scope : Scope N) where
  pub bind-refused : {X Y : Type 0} (m : Script P N X) (n : X → Script P N Y) (s : State P N) (e : Fault P) → IsAnswer scope m s (refused e) → IsAnswer scope (m >>= n) s (refused e)
  unfolding ◌>>=◌ IsAnswer
  bind-refused (give x) n s e h = absurd (not_refused (sym h))
  bind-refused (refuse d) n s e h = ap refused (refused-same h)
  bind-refused (tests C d k) n s e (inl (c, h)) = inl (c, bind-refused k n s e h)
  bind-refused (tests C d k) n s e (inr (c, h)) = inr (c, ap refused (refused-same h))
  bind-refused (either C k j) n s e (inl (c, h)) = inl (c, bind-refused k n s e h)
  bind-refused (either C k j) n s e (inr (c, h)) = inr (c, bind-refused j n s e h)
  bind-refused (makes_unknowns v k) n s e h = bind-refused (k s.made) n (with_unknowns v s) e h
  bind-refused (requires d p k) n s e (inl (c, h)) = inl (c, bind-refused k n (with_demand d s) e h)
  bind-refused (requires d p k) n s e (inr (l, c, h)) = inr (l, c, ap refused (refused-same h))
  bind-refused (sees k) n s e h = bind-refused (k s) n s e h
  bind-refused (sets_window w k) n s e h = bind-refused k n (with_window w s) e h
  bind-refused (stays_open k) n s e h = bind-refused k n (opened s) e h
  bind-refused (judges j k) n s e h = bind-refused k n (with_judged j s) e h
  bind-refused (starts_anew k) n s e h = bind-refused k n (afresh s) e h
  bind-refused (requires_or d x k) n s e (inl (c, h)) = inl (c, bind-refused k n (with_demand d s) e h)
  bind-refused (requires_or d x k) n s e (inr (c, h)) = inr (c, ap refused (refused-same h))
  bind-refused (closes v x t k) n s e (σ, c, h) = (σ, c, bind-refused (k σ) n s e h)
  bind-refused (determines t x k) n s e (inl (u, c, h)) = inl (u, c, bind-refused (k u) n s e h)
  bind-refused (determines t x k) n s e (inr (c, h)) = inr (c, ap refused (refused-same h))
  bind-refused (makes_names ws k) n s e (ns, c, h) = (ns, c, bind-refused (k ns) n (with_made ns s) e h)
  bind-refused (makes_datatypes C ds k) n s e (ns, c, d, inl (x, g, h)) = (ns, c, d, inl (x, g, ap refused (refused-same h)))
  bind-refused (makes_datatypes C ds k) n s e (ns, c, d, inr (gs, x, g, h)) = (ns, c, d, inr (gs, x, g, bind-refused (k ns gs) n (with_made ns s) e h))

  pub bind-split : {X Y : Type 0} (m : Script P N X) (n : X → Script P N Y) (s : State P N) (e : Fault P) → IsAnswer scope (m >>= n) s (refused e)
      → IsAnswer scope m s (refused e) ⊎ ((q : X × State P N) × IsAnswer scope m s (accepted q) × IsAnswer scope (n q.0) q.1 (refused e))
  unfolding ◌>>=◌ IsAnswer
  bind-split (give x) n s e h = inr ((x, s), refl, h)
  bind-split (refuse d) n s e h = inl (ap refused (refused-same h))
  bind-split (tests C d k) n s e (inl (c, h)) = elim (bind-split k n s e h) [ inl a ↦ inl (inl (c, a)) | inr a ↦ inr (a.0, inl (c, a.1), a.2) ]
  bind-split (tests C d k) n s e (inr (c, h)) = inl (inr (c, ap refused (refused-same h)))
  bind-split (either C k j) n s e (inl (c, h)) = elim (bind-split k n s e h) [ inl a ↦ inl (inl (c, a)) | inr a ↦ inr (a.0, inl (c, a.1), a.2) ]
  bind-split (either C k j) n s e (inr (c, h)) = elim (bind-split j n s e h) [ inl a ↦ inl (inr (c, a)) | inr a ↦ inr (a.0, inr (c, a.1), a.2) ]
  bind-split (makes_unknowns v k) n s e h = bind-split (k s.made) n (with_unknowns v s) e h
  bind-split (requires d p k) n s e (inl (c, h)) = elim (bind-split k n (with_demand d s) e h) [ inl a ↦ inl (inl (c, a)) | inr a ↦ inr (a.0, inl (c, a.1), a.2) ]
  bind-split (requires d p k) n s e (inr (l, c, h)) = inl (inr (l, c, ap refused (refused-same h)))
  bind-split (sees k) n s e h = bind-split (k s) n s e h
  bind-split (sets_window w k) n s e h = bind-split k n (with_window w s) e h
  bind-split (stays_open k) n s e h = bind-split k n (opened s) e h
  bind-split (judges j k) n s e h = bind-split k n (with_judged j s) e h
  bind-split (starts_anew k) n s e h = bind-split k n (afresh s) e h
  bind-split (requires_or d x k) n s e (inl (c, h)) = elim (bind-split k n (with_demand d s) e h) [ inl a ↦ inl (inl (c, a)) | inr a ↦ inr (a.0, inl (c, a.1), a.2) ]
  bind-split (requires_or d x k) n s e (inr (c, h)) = inl (inr (c, ap refused (refused-same h)))
  bind-split (closes v x t k) n s e (σ, c, h) = elim (bind-split (k σ) n s e h) [ inl a ↦ inl (σ, c, a) | inr a ↦ inr (a.0, (σ, c, a.1), a.2) ]
  bind-split (determines t x k) n s e (inl (u, c, h)) = elim (bind-split (k u) n s e h) [ inl a ↦ inl (inl (u, c, a)) | inr a ↦ inr (a.0, inl (u, c, a.1), a.2) ]
  bind-split (determines t x k) n s e (inr (c, h)) = inl (inr (c, ap refused (refused-same h)))
  bind-split (makes_names ws k) n s e (ns, c, h) = elim (bind-split (k ns) n (with_made ns s) e h) [ inl a ↦ inl (ns, c, a) | inr a ↦ inr (a.0, (ns, c, a.1), a.2) ]
  bind-split (makes_datatypes C ds k) n s e (ns, c, d, inl (x, g, h)) = inl (ns, c, d, inl (x, g, ap refused (refused-same h)))
  bind-split (makes_datatypes C ds k) n s e (ns, c, d, inr (gs, x, g, h)) =
      elim (bind-split (k ns gs) n (with_made ns s) e h) [ inl a ↦ inl (ns, c, d, inr (gs, x, g, a)) | inr a ↦ inr (a.0, (ns, c, d, inr (gs, x, g, a.1)), a.2) ]
