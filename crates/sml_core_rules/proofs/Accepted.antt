-- Answers that are accepted: what scripts in sequence are made of, and what a script leaves of its state.
use Rattle.std.specs.Prelude.{◌⊎◌, Bool, true, false, ◌&&◌, cond, ◌≡◌, List, [], ◌++◌}
use Rattle.std.proofs.lemmas.List.{append_assoc}
use mathlib.Core.Path.{◌∙◌, refl, sym, ap, subst}
use mathlib.Core.Logic.{inl, inr}
use Rattle.sml_objects.specs.Objects.{Outside}
use Rattle.sml_layers.specs.declared.layer.Layer.TheVariants.{Rigidity}
use Rattle.sml_layers.specs.Demands.{CanBeMet}
use Rattle.sml_rules.specs.Answers.{Answer, accepted}
use Rattle.sml_rules.proofs.Settled.{outside-right}
use Rattle.sml_rules.proofs.Sound.{accepted_same, not_refused}
use Rattle.sml_core_rules.specs.States.{Scope, State, words, with_unknowns, with_made, with_demand, with_window, with_judged, opened, afresh}
use Rattle.sml_core_rules.specs.Scripts.{Script, give, refuse, tests, either, makes_unknowns, requires, sees, sets_window, stays_open, judges, starts_anew, requires_or, closes, determines, makes_names, makes_datatypes, ◌>>=◌, IsAnswer}

module _ {P N : Type 0} (scope : Scope N) where
  pub given : {X : Type 0} (x : X) (s : State P N) (r : X × State P N) → IsAnswer scope (give x) s (accepted r) → r.0 ≡ x
  unfolding IsAnswer
  given x s r h = ap (λ q. q.0) (accepted_same h)

  -- one of two ways to go on
  pub taken : {X : Type 0} (b c : Bool) (k j : Script P N X) (s : State P N) (r : X × State P N) → IsAnswer scope (cond b (cond c k j) j) s (accepted r)
      → (((b && c) ≡ true) × IsAnswer scope k s (accepted r)) ⊎ (((b && c) ≡ false) × IsAnswer scope j s (accepted r))
  taken true true k j s r h = inl (refl, h)
  taken true false k j s r h = inr (refl, h)
  taken false c k j s r h = inr (refl, h)

  -- what comes first, and what comes then
  pub bind-accepted : {X Y : Type 0} (m : Script P N X) (f : X → Script P N Y) (s : State P N) (r : Y × State P N) → IsAnswer scope (m >>= f) s (accepted r)
      → (q : X × State P N) × IsAnswer scope m s (accepted q) × IsAnswer scope (f q.0) q.1 (accepted r)
  unfolding ◌>>=◌ IsAnswer
  bind-accepted (give x) f s r h = ((x, s), refl, h)
  bind-accepted (refuse e) f s r h = absurd (not_refused h)
  bind-accepted (tests C e k) f s r (inl (c, h)) = let a = bind-accepted k f s r h in (a.0, inl (c, a.1), a.2)
  bind-accepted (tests C e k) f s r (inr h) = absurd (not_refused h.1)
  bind-accepted (either C k j) f s r (inl (c, h)) = let a = bind-accepted k f s r h in (a.0, inl (c, a.1), a.2)
  bind-accepted (either C k j) f s r (inr (c, h)) = let a = bind-accepted j f s r h in (a.0, inr (c, a.1), a.2)
  bind-accepted (makes_unknowns n k) f s r h = bind-accepted (k s.made) f (with_unknowns n s) r h
  bind-accepted (requires d p k) f s r (inl (c, h)) = let a = bind-accepted k f (with_demand d s) r h in (a.0, inl (c, a.1), a.2)
  bind-accepted (requires d p k) f s r (inr h) = absurd (not_refused h.2)
  bind-accepted (sees k) f s r h = bind-accepted (k s) f s r h
  bind-accepted (sets_window w k) f s r h = bind-accepted k f (with_window w s) r h
  bind-accepted (stays_open k) f s r h = bind-accepted k f (opened s) r h
  bind-accepted (judges j k) f s r h = bind-accepted k f (with_judged j s) r h
  bind-accepted (starts_anew k) f s r h = bind-accepted k f (afresh s) r h
  bind-accepted (requires_or d e k) f s r (inl (c, h)) = let a = bind-accepted k f (with_demand d s) r h in (a.0, inl (c, a.1), a.2)
  bind-accepted (requires_or d e k) f s r (inr h) = absurd (not_refused h.1)
  bind-accepted (closes n x t k) f s r (σ, c, h) = let a = bind-accepted (k σ) f s r h in (a.0, (σ, c, a.1), a.2)
  bind-accepted (determines t e k) f s r (inl (u, c, h)) = let a = bind-accepted (k u) f s r h in (a.0, inl (u, c, a.1), a.2)
  bind-accepted (determines t e k) f s r (inr h) = absurd (not_refused h.1)
  bind-accepted (makes_names ws k) f s r (ns, c, h) = let a = bind-accepted (k ns) f (with_made ns s) r h in (a.0, (ns, c, a.1), a.2)
  bind-accepted (makes_datatypes C ds k) f s r (ns, c, d, inl h) = absurd (not_refused h.2)
  bind-accepted (makes_datatypes C ds k) f s r (ns, c, d, inr (gs, e, g, h)) = let a = bind-accepted (k ns gs) f (with_made ns s) r h in (a.0, (ns, c, d, inr (gs, e, g, a.1)), a.2)

  pub bind-joined : {X Y : Type 0} (m : Script P N X) (f : X → Script P N Y) (s : State P N) (q : X × State P N) (o : Answer P (Y × State P N)) → IsAnswer scope m s (accepted q)
      → IsAnswer scope (f q.0) q.1 o → IsAnswer scope (m >>= f) s o
  unfolding ◌>>=◌ IsAnswer
  bind-joined (give x) f s q o h k = subst (λ q. IsAnswer scope (f q.0) q.1 o) (accepted_same h) k
  bind-joined (refuse e) f s q o h k = absurd (not_refused h)
  bind-joined (tests C e m) f s q o (inl (c, h)) k = inl (c, bind-joined m f s q o h k)
  bind-joined (tests C e m) f s q o (inr h) k = absurd (not_refused h.1)
  bind-joined (either C m n) f s q o (inl (c, h)) k = inl (c, bind-joined m f s q o h k)
  bind-joined (either C m n) f s q o (inr (c, h)) k = inr (c, bind-joined n f s q o h k)
  bind-joined (makes_unknowns n m) f s q o h k = bind-joined (m s.made) f (with_unknowns n s) q o h k
  bind-joined (requires d p m) f s q o (inl (c, h)) k = inl (c, bind-joined m f (with_demand d s) q o h k)
  bind-joined (requires d p m) f s q o (inr h) k = absurd (not_refused h.2)
  bind-joined (sees m) f s q o h k = bind-joined (m s) f s q o h k
  bind-joined (sets_window w m) f s q o h k = bind-joined m f (with_window w s) q o h k
  bind-joined (stays_open m) f s q o h k = bind-joined m f (opened s) q o h k
  bind-joined (judges j m) f s q o h k = bind-joined m f (with_judged j s) q o h k
  bind-joined (starts_anew m) f s q o h k = bind-joined m f (afresh s) q o h k
  bind-joined (requires_or d e m) f s q o (inl (c, h)) k = inl (c, bind-joined m f (with_demand d s) q o h k)
  bind-joined (requires_or d e m) f s q o (inr h) k = absurd (not_refused h.1)
  bind-joined (closes n x t m) f s q o (σ, c, h) k = (σ, c, bind-joined (m σ) f s q o h k)
  bind-joined (determines t e m) f s q o (inl (u, c, h)) k = inl (u, c, bind-joined (m u) f s q o h k)
  bind-joined (determines t e m) f s q o (inr h) k = absurd (not_refused h.1)
  bind-joined (makes_names ws m) f s q o (ns, c, h) k = (ns, c, bind-joined (m ns) f (with_made ns s) q o h k)
  bind-joined (makes_datatypes C ds m) f s q o (ns, c, d, inl h) k = absurd (not_refused h.2)
  bind-joined (makes_datatypes C ds m) f s q o (ns, c, d, inr (gs, e, g, h)) k = (ns, c, d, inr (gs, e, g, bind-joined (m ns gs) f (with_made ns s) q o h k))

  -- Demands that can be met still can, and names are only added.
  pub record Kept (s t : State P N) : Type 0 where
    pub met : CanBeMet (words scope) Rigidity s.demands → CanBeMet (words scope) Rigidity t.demands
    pub added : (ns : List N) × (t.names ≡ ns ++ s.names)

  pub kept-outside : (s t : State P N) → Kept s t → (n : N) → Outside n t.names → Outside n s.names
  kept-outside s t h n o = outside-right n h.added.0 s.names (subst (Outside n) h.added.1 o)

  kept-same : (s t : State P N) → t ≡ s → Kept s t
  kept-same s t e = record { met = λ m. subst (λ t. CanBeMet (words scope) Rigidity t.demands) (sym e) m; added = ([], ap (λ t. t.names) e) }

  kept-after : (s t u : State P N) → Kept s t → Kept t u → Kept s u
  kept-after s t u h k = record {
    met = λ m. k.met (h.met m);
    added = (k.added.0 ++ h.added.0, k.added.1 ∙ (ap (λ ns. k.added.0 ++ ns) h.added.1 ∙ sym (append_assoc k.added.0 h.added.0 s.names)));
  }

  kept-made : (ns : List N) (s : State P N) → Kept s (with_made ns s)
  kept-made ns s = record { met = λ m. m; added = (ns, refl) }

  -- where nothing is asked, or what was, all can be met
  pub met-afresh : (s : State P N) → CanBeMet (words scope) Rigidity s.demands → CanBeMet (words scope) Rigidity (afresh s).demands
  met-afresh s m = go s.is_open
    where
      go : (b : Bool) → CanBeMet (words scope) Rigidity (cond b s.demands [])
      go true = m
      go false = (m.0, tt)

  pub kept : {X : Type 0} (k : Script P N X) (s : State P N) (r : X × State P N) → IsAnswer scope k s (accepted r) → Kept s r.1
  unfolding IsAnswer
  kept (give x) s r h = kept-same s r.1 (ap (λ q. q.1) (accepted_same h))
  kept (refuse e) s r h = absurd (not_refused h)
  kept (tests C e k) s r (inl h) = kept k s r h.1
  kept (tests C e k) s r (inr h) = absurd (not_refused h.1)
  kept (either C k j) s r (inl h) = kept k s r h.1
  kept (either C k j) s r (inr h) = kept j s r h.1
  kept (makes_unknowns n k) s r h = kept-after s (with_unknowns n s) r.1 (record { met = λ m. m; added = ([], refl) }) (kept (k s.made) (with_unknowns n s) r h)
  kept (requires d p k) s r (inl (c, h)) = kept-after s (with_demand d s) r.1 (record { met = λ m. c; added = ([], refl) }) (kept k (with_demand d s) r h)
  kept (requires d p k) s r (inr h) = absurd (not_refused h.2)
  kept (sees k) s r h = kept (k s) s r h
  kept (sets_window w k) s r h = kept-after s (with_window w s) r.1 (record { met = λ m. m; added = ([], refl) }) (kept k (with_window w s) r h)
  kept (stays_open k) s r h = kept-after s (opened s) r.1 (record { met = λ m. m; added = ([], refl) }) (kept k (opened s) r h)
  kept (judges j k) s r h = kept-after s (with_judged j s) r.1 (record { met = λ m. m; added = ([], refl) }) (kept k (with_judged j s) r h)
  kept (starts_anew k) s r h = kept-after s (afresh s) r.1 (record { met = met-afresh s; added = ([], refl) }) (kept k (afresh s) r h)
  kept (requires_or d e k) s r (inl (c, h)) = kept-after s (with_demand d s) r.1 (record { met = λ m. c; added = ([], refl) }) (kept k (with_demand d s) r h)
  kept (requires_or d e k) s r (inr h) = absurd (not_refused h.1)
  kept (closes n x t k) s r (σ, c, h) = kept (k σ) s r h
  kept (determines t e k) s r (inl (u, c, h)) = kept (k u) s r h
  kept (determines t e k) s r (inr h) = absurd (not_refused h.1)
  kept (makes_names ws k) s r (ns, c, h) = kept-after s (with_made ns s) r.1 (kept-made ns s) (kept (k ns) (with_made ns s) r h)
  kept (makes_datatypes C ds k) s r (ns, c, d, inl h) = absurd (not_refused h.2)
  kept (makes_datatypes C ds k) s r (ns, c, d, inr (gs, e, g, h)) = kept-after s (with_made ns s) r.1 (kept-made ns s) (kept (k ns gs) (with_made ns s) r h)
