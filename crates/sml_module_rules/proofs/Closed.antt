-- Schemes without unknowns: those that type functions were put in are.
use Rattle.std.specs.Prelude.{◌≡◌, ℕ, suc, Bool, true, false, cond, ◌||◌, nat_eq, List, [], ◌∷◌, map, slice_index_or, Some, None}
use mathlib.Core.Path.{refl, ap}
use Rattle.std.specs.List.{list_any}
use Rattle.sml_objects.specs.declared.fates.Fate.TheVariants.{Bind}
use Rattle.sml_objects.specs.Fates.{close_as, substitutes, type_or, standing_for}
use Rattle.sml_objects.specs.Objects.{MlType, MlTypes, bound, free, app, no_type, and_type}
use Rattle.sml_objects.specs.Types.{assign, replace_type, replace_types, variables_after, variables_after_all, index_among}
use Rattle.sml_objects.proofs.Closings.{all-stay-among, here-among}
use Rattle.sml_core_rules.specs.Datatypes.{constructor_scheme}

unfoldable mutual
  pub IsClosed : {N : Type 0} → MlType N → Type 0
  IsClosed (bound k) = Unit {0}
  IsClosed (free v) = ⊥
  IsClosed (app h ts) = AreClosed ts

  pub AreClosed : {N : Type 0} → MlTypes N → Type 0
  AreClosed no_type = Unit {0}
  AreClosed (and_type t ts) = IsClosed t × AreClosed ts

mutual
  unfolding IsClosed replace_type replace_types

  pub assign-closed : {N : Type 0} (σ : ℕ → MlType N) (t : MlType N) → IsClosed t → assign σ t ≡ t
  assign-closed σ (bound k) h = refl
  assign-closed σ (free v) h = absurd h
  assign-closed σ (app g ts) h = ap (app g) (assign-all-closed σ ts h)

  assign-all-closed : {N : Type 0} (σ : ℕ → MlType N) (ts : MlTypes N) → AreClosed ts → replace_types bound σ ts ≡ ts
  assign-all-closed σ no_type h = refl
  assign-all-closed σ (and_type t ts) h = λ i. and_type (assign-closed σ t h.0 i) (assign-all-closed σ ts h.1 i)

-- all free variables are such
unfoldable mutual
  AllFree : {N : Type 0} → (ℕ → Type 0) → MlType N → Type 0
  AllFree Q (bound k) = Unit {0}
  AllFree Q (free v) = Q v
  AllFree Q (app h ts) = AllFrees Q ts

  AllFrees : {N : Type 0} → (ℕ → Type 0) → MlTypes N → Type 0
  AllFrees Q no_type = Unit {0}
  AllFrees Q (and_type t ts) = AllFree Q t × AllFrees Q ts

mutual
  unfolding AllFree

  more-free : {N : Type 0} (Q R : ℕ → Type 0) → ((v : ℕ) → Q v → R v) → (t : MlType N) → AllFree Q t → AllFree R t
  more-free Q R f (bound k) h = tt
  more-free Q R f (free v) h = f v h
  more-free Q R f (app g ts) h = more-frees Q R f ts h

  more-frees : {N : Type 0} (Q R : ℕ → Type 0) → ((v : ℕ) → Q v → R v) → (ts : MlTypes N) → AllFrees Q ts → AllFrees R ts
  more-frees Q R f no_type h = tt
  more-frees Q R f (and_type t ts) h = (more-free Q R f t h.0, more-frees Q R f ts h.1)

mutual
  unfolding AllFree IsClosed replace_type replace_types

  closed-by : {N : Type 0} (f : ℕ → MlType N) (t : MlType N) → AllFree (λ v. IsClosed (f v)) t → IsClosed (assign f t)
  closed-by f (bound k) h = tt
  closed-by f (free v) h = h
  closed-by f (app g ts) h = all-closed-by f ts h

  all-closed-by : {N : Type 0} (f : ℕ → MlType N) (ts : MlTypes N) → AllFrees (λ v. IsClosed (f v)) ts → AreClosed (replace_types bound f ts)
  all-closed-by f no_type h = tt
  all-closed-by f (and_type t ts) h = (closed-by f t h.0, all-closed-by f ts h.1)

-- the variables of a type are among those collected

mutual
  unfolding variables_after variables_after_all AllFree

  all-seen : {N : Type 0} (seen : List ℕ) (t : MlType N) → AllFree (λ v. list_any (nat_eq v) (variables_after seen t) ≡ true) t
  all-seen seen (bound k) = tt
  all-seen seen (free v) = here-among v seen (list_any (nat_eq v) seen) refl
  all-seen seen (app g ts) = all-all-seen seen ts

  all-all-seen : {N : Type 0} (seen : List ℕ) (ts : MlTypes N) → AllFrees (λ v. list_any (nat_eq v) (variables_after_all seen ts) ≡ true) ts
  all-all-seen seen no_type = tt
  all-all-seen seen (and_type t ts) =
      (more-free _ _ (λ v h. all-stay-among v (variables_after seen t) ts h) t (all-seen seen t), all-all-seen (variables_after seen t) ts)

-- what stands for a variable that is bound

stands-closed : {N : Type 0} (u : MlType N) (e : ℕ → Bool) (k v : ℕ) (ws : List ℕ) → list_any (nat_eq v) ws ≡ true
    → IsClosed (type_or (free v) (slice_index_or (substitutes u k (map (λ w. Bind (e w)) ws)) (index_among v ws) None))
unfolding index_among IsClosed
stands-closed u e k v [] h = let f : false ≡ true = h in absurd cc
stands-closed u e k v (w ∷ ws) h = go (nat_eq v w) h (stands-closed u e (suc k) v ws)
  where
    go : (b : Bool) → (b || list_any (nat_eq v) ws) ≡ true
        → (list_any (nat_eq v) ws ≡ true → IsClosed (type_or (free v) (slice_index_or (substitutes u (suc k) (map (λ w. Bind (e w)) ws)) (index_among v ws) None)))
        → IsClosed (type_or (free v) (slice_index_or (Some (bound k) ∷ substitutes u (suc k) (map (λ w. Bind (e w)) ws)) (cond b 0 (suc (index_among v ws))) None))
    go true f r = tt
    go false f r = r f

pub scheme-closed : {N : Type 0} (es : List Bool) (t : MlType N) → IsClosed (constructor_scheme es t).body
unfolding close_as
scheme-closed es t =
    closed-by (standing_for (variables_after [] t) (substitutes t 0 (map (λ v. Bind (slice_index_or es v false)) (variables_after [] t)))) t
    (more-free _ _ (λ v h. stands-closed t (λ v. slice_index_or es v false) 0 v (variables_after [] t) h) t (all-seen [] t))
