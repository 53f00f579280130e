-- Types are the same under two assignments where their variables have the same types.
use Rattle.std.proofs.Common.{◌≡◌, ◌↔◌, ◌⊎◌, ℕ, Bool, true, false, cond, ◌||◌, List, [], ◌∷◌, ◌++◌, map, inl, inr, sym, ◌∙◌, ap, refl, nat_eq}
use Rattle.std.specs.List.{AllByRecursion, list_any}
use Rattle.std.proofs.lemmas.Bool.{eqb-true}
use Rattle.sml_objects.specs.Appearance.{Stands}
use Rattle.sml_objects.specs.Initial.{Name}
use Rattle.sml_objects.specs.Objects.{MlType, MlTypes, bound, free, app, no_type, and_type, types_of}
use Rattle.sml_objects.specs.Types.{assign, replace_type, replace_types, variables_after, variables_after_all}
use Rattle.sml_objects.proofs.Standing.{left, right, either}
use Rattle.sml_layers.specs.Worlds.{Assignment, finite}
use Rattle.sml_core_rules.specs.Solutions as C
use Rattle.sml_asks.specs.Closings.{TypesFixAsVariables}

listed : (v : ℕ) (seen : List ℕ) → list_any (nat_eq v) seen ≡ true → Stands v seen
unfolding Stands
listed v [] h = cc
listed v (w ∷ ws) h = go (nat_eq v w) refl h (listed v ws)
  where
    go : (b : Bool) → nat_eq v w ≡ b → (b || list_any (nat_eq v) ws) ≡ true → (list_any (nat_eq v) ws ≡ true → Stands v ws) → (v ≡ w) ⊎ Stands v ws
    go true e k next = inl (eqb-true v w e)
    go false e k next = inr (next k)

module _ (σ τ : Assignment Name finite) where
  abbrev pub Agree : List ℕ → Type 0
  Agree ws = (w : ℕ) → Stands w ws → σ w ≡ τ w

  and-one : (seen : List ℕ) (v : ℕ) → Agree seen → σ v ≡ τ v → Agree (seen ++ v ∷ [])
  unfolding Stands
  and-one seen v a e w h = go (either w seen (v ∷ []) h)
    where
      go : Stands w seen ⊎ ((w ≡ v) ⊎ ⊥) → σ w ≡ τ w
      go (inl s) = a w s
      go (inr (inl q)) = ap σ q ∙ (e ∙ sym (ap τ q))
      go (inr (inr q)) = absurd q

  last-one : (seen : List ℕ) (v : ℕ) → Agree (seen ++ v ∷ []) → (σ v ≡ τ v) × Agree seen
  unfolding Stands
  last-one seen v a = (a v (right v seen (v ∷ []) (inl refl)), λ w h. a w (left w seen (v ∷ []) h))

  mutual
    unfolding replace_type replace_types variables_after variables_after_all

    pub there : (t : MlType Name) (seen : List ℕ) → Agree seen → assign σ t ≡ assign τ t → Agree (variables_after seen t)
    there (bound k) seen a e = a
    there (free v) seen a e = elim (list_any (nat_eq v) seen) as (λ b. Agree (cond b seen (seen ++ v ∷ []))) [ true ↦ a | false ↦ and-one seen v a e ]
    there (app h ts) seen a e = all-there ts seen a (cc)

    all-there : (ts : MlTypes Name) (seen : List ℕ) → Agree seen → replace_types bound σ ts ≡ replace_types bound τ ts → Agree (variables_after_all seen ts)
    all-there no_type seen a e = a
    all-there (and_type t ts) seen a e = all-there ts (variables_after seen t) (there t seen a (cc)) (cc)

  mutual
    unfolding replace_type replace_types variables_after variables_after_all

    pub back : (t : MlType Name) (seen : List ℕ) → Agree (variables_after seen t) → (assign σ t ≡ assign τ t) × Agree seen
    back (bound k) seen a = (refl, a)
    back (free v) seen a = go (list_any (nat_eq v) seen) refl a
      where
        go : (b : Bool) → list_any (nat_eq v) seen ≡ b → Agree (cond b seen (seen ++ v ∷ [])) → (σ v ≡ τ v) × Agree seen
        go true e k = (k v (listed v seen e), k)
        go false e k = last-one seen v k
    back (app h ts) seen a = let r : (replace_types bound σ ts ≡ replace_types bound τ ts) × Agree seen = all-back ts seen a in (ap (app h) r.0, r.1)

    all-back : (ts : MlTypes Name) (seen : List ℕ) → Agree (variables_after_all seen ts) → (replace_types bound σ ts ≡ replace_types bound τ ts) × Agree seen
    all-back no_type seen a = (refl, a)
    all-back (and_type t ts) seen a =
        let r : (replace_types bound σ ts ≡ replace_types bound τ ts) × Agree (variables_after seen t) = all-back ts (variables_after seen t) a in
        let q : (assign σ t ≡ assign τ t) × Agree seen = back t seen r.1 in
        (cc (q.0, r.0), q.1)

  types-same : (ts : List (MlType Name)) → AllByRecursion (λ t. assign σ t ≡ assign τ t) ts ↔ (replace_types bound σ (types_of ts) ≡ replace_types bound τ (types_of ts))
  unfolding replace_types
  types-same [] = (λ h. refl, λ h. tt)
  types-same (t ∷ ts) = (λ (h, hs). cc (h, (types-same ts).0 hs), λ h. ((cc), (types-same ts).1 (cc)))

  free-same : (ws : List ℕ) → AllByRecursion (λ t. assign σ t ≡ assign τ t) (map free ws) ↔ Agree ws
  unfolding replace_type Stands
  free-same [] = ((λ h w s. absurd s), λ h. tt)
  free-same (w ∷ ws) = (λ h v s. go h.0 ((free-same ws).0 h.1) v s, λ h. (h w (inl refl), (free-same ws).1 (λ v s. h v (inr s))))
    where
      go : σ w ≡ τ w → Agree ws → (v : ℕ) → (v ≡ w) ⊎ Stands v ws → σ v ≡ τ v
      go h a v (inl e) = ap σ e ∙ (h ∙ sym (ap τ e))
      go h a v (inr s) = a v s

  all-same : (ts : List (MlType Name))
      → AllByRecursion (λ t. assign σ t ≡ assign τ t) ts ↔ AllByRecursion (λ t. assign σ t ≡ assign τ t) (map free (variables_after_all [] (types_of ts)))
  unfolding Stands
  all-same ts = (
    λ h. (free-same (variables_after_all [] (types_of ts))).1 (all-there (types_of ts) [] (λ w s. absurd s) ((types-same ts).0 h)),
    λ h. (types-same ts).1 (all-back (types_of ts) [] ((free-same (variables_after_all [] (types_of ts))).0 h)).0,
  )

pub types-fix-as-variables : TypesFixAsVariables
unfolding C.IsFixed
types-fix-as-variables unit s n ts v = (
  λ f σ τ h k low same. f σ τ h k low ((all-same σ τ ts).1 same),
  λ f σ τ h k low same. f σ τ h k low ((all-same σ τ ts).0 same),
)
