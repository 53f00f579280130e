-- Closing leaves no variable that isn't bound, and adds no name but `int`. Constructors are closed over all their parameters.
use Rattle.std.specs.Prelude.{◌≡◌, ◌⊎◌, ◌||◌, ◌<◌, ◌≤◌, ◌+◌, ℕ, zero, suc, Bool, true, false, cond, nat_eq, List, [], ◌∷◌, ◌++◌, map, length, slice_index_or, None}
use Rattle.std.specs.List.{list_any}
use Rattle.std.proofs.Common.{arith}
use Rattle.std.proofs.lemmas.Bool.{eqb-true, eq-eqb, false≢true}
use mathlib.Core.Path.{refl, sym, ap, subst, ◌∙◌}
use mathlib.Core.Logic.{inl, inr}
use Rattle.sml_objects.specs.Appearance.{Stands}
use Rattle.sml_objects.specs.Fates.{attributes, close_as, substitutes, standing_for, type_or}
use Rattle.sml_objects.specs.Names.{int}
use Rattle.sml_objects.specs.Objects.{MlType, MlTypes, Head, name, Scheme, bound, free, app, no_type, and_type, named}
use Rattle.sml_objects.specs.Types.{variables_after, variables_after_all, index_among}
use Rattle.sml_objects.specs.declared.fates.Fate.{Fate}
use Rattle.sml_objects.specs.declared.fates.Fate.TheVariants.{Bind, Keep, Default}
use Rattle.sml_objects.proofs.Standing.{left, right}
use Rattle.sml_core_rules.specs.Datatypes.{constructor_scheme}
use Rattle.sml_core_rules.specs.Solutions.{IsScheme}
use Rattle.sml_core_rules.specs.States.{Scope, State}
use Rattle.sml_core_laws.specs.Made.{Speaks, AllSpeak, IsHeadIn, IsTypeIn, IsSchemeIn, IsClosedIn, IsWellMade}
use Rattle.sml_core_laws.proofs.MadeShapes.{IsShape}
use Rattle.sml_core_laws.proofs.MadeTypes.{replaced-speaks, speaks-more}
use Rattle.sml_core_laws.proofs.MadeGiving.{reading-in}

-- value declarations

module _ {N : Type 0} (V : ℕ → Type 0) (H : Head N → ℕ → Type 0) (u : N) (q : H (name u) 0) (v : ℕ) (own : V v) (n : ℕ) where
  substitute-speaks : (k i : ℕ) (fs : List Fate) → k + length (attributes fs) ≤ n → Speaks (λ j. j < n) V H (type_or (free v) (slice_index_or (substitutes (named u) k fs) i None))
  unfolding Speaks
  substitute-speaks k i [] l = own
  substitute-speaks k zero (Bind e ∷ fs) l = omega arith
  substitute-speaks k zero (Keep ∷ fs) l = own
  substitute-speaks k zero (Default ∷ fs) l = (q, tt)
  substitute-speaks k (suc i) (Bind e ∷ fs) l = substitute-speaks (suc k) i fs (omega arith)
  substitute-speaks k (suc i) (Keep ∷ fs) l = substitute-speaks k i fs l
  substitute-speaks k (suc i) (Default ∷ fs) l = substitute-speaks k i fs l

pub scheme-in : {P N : Type 0} (scope : Scope N) (S : Head N → ℕ → Type 0) (shape : IsShape scope.names S) (s : State P N) (n : ℕ) (x : Bool) (t : MlType N) (σ : Scheme N) → IsWellMade S scope s → IsTypeIn S s.made s.names t
    → IsScheme scope s n x t σ → IsSchemeIn S s.made s.names σ
unfolding IsScheme close_as
scheme-in scope S shape s n x t σ w m (r, stands, fate, fates, e) =
    let fs : List Fate = map fate (variables_after [] r) in
    subst (IsSchemeIn S s.made s.names) (sym e)
    (replaced-speaks bound (standing_for (variables_after [] r) (substitutes (named (scope.names.initial int)) 0 fs)) _ _ _ _ _ _ r (reading-in scope S shape s w t r m stands) (λ k b. absurd b)
    (λ v l. substitute-speaks (λ v. v < s.made) (IsHeadIn S s.names) (scope.names.initial int) (w.initials int, shape.names_alone int tt) v l (length (attributes fs)) 0 (index_among v (variables_after [] r)) fs (omega arith))
    (λ h k q. q))

-- constructors

index-below : (v : ℕ) (ws : List ℕ) → Stands v ws → index_among v ws < length ws
unfolding Stands index_among
index-below v [] h = absurd h
index-below v (w ∷ ws) h = go (nat_eq v w) refl (index-below v ws) h
  where
    go : (b : Bool) → nat_eq v w ≡ b → (Stands v ws → index_among v ws < length ws) → (v ≡ w) ⊎ Stands v ws → cond b 0 (suc (index_among v ws)) < suc (length ws)
    go true e r k = omega arith
    go false e r (inl k) = let f : true ≡ false = sym (eq-eqb v w k) ∙ e in absurd cc
    go false e r (inr k) = let l = r k in omega arith

seen-stands : (v : ℕ) (ws : List ℕ) → list_any (nat_eq v) ws ≡ true → Stands v ws
unfolding Stands
seen-stands v [] h = absurd (false≢true h)
seen-stands v (w ∷ ws) h = go (nat_eq v w) refl (seen-stands v ws) h
  where
    go : (b : Bool) → nat_eq v w ≡ b → (list_any (nat_eq v) ws ≡ true → Stands v ws) → (b || list_any (nat_eq v) ws) ≡ true → (v ≡ w) ⊎ Stands v ws
    go true e r h = inl (eqb-true v w e)
    go false e r h = inr (r h)

module _ {N : Type 0} where
  mutual
    unfolding variables_after

    stays : (v : ℕ) (seen : List ℕ) (t : MlType N) → Stands v seen → Stands v (variables_after seen t)
    stays v seen (bound k) h = h
    stays v seen (free w) h = elim (list_any (nat_eq w) seen) as (λ b. Stands v (cond b seen (seen ++ w ∷ []))) [ true ↦ h | false ↦ left v seen (w ∷ []) h ]
    stays v seen (app g ts) h = all-stay v seen ts h

    all-stay : (v : ℕ) (seen : List ℕ) (ts : MlTypes N) → Stands v seen → Stands v (variables_after_all seen ts)
    all-stay v seen no_type h = h
    all-stay v seen (and_type t ts) h = all-stay v (variables_after seen t) ts (stays v seen t h)

  module _ (B V : ℕ → Type 0) (H : Head N → ℕ → Type 0) where
    mutual
      unfolding variables_after Speaks Stands

      -- a type speaks of its variables
      own-speaks : (seen : List ℕ) (t : MlType N) → Speaks B V H t → Speaks B (λ v. Stands v (variables_after seen t)) H t
      own-speaks seen (bound k) h = h
      own-speaks seen (free v) h = go (list_any (nat_eq v) seen) refl
        where
          go : (b : Bool) → list_any (nat_eq v) seen ≡ b → Stands v (cond b seen (seen ++ v ∷ []))
          go true e = seen-stands v seen e
          go false e = right v seen (v ∷ []) (inl refl)
      own-speaks seen (app g ts) h = (h.0, all-own-speak seen ts h.1)

      all-own-speak : (seen : List ℕ) (ts : MlTypes N) → AllSpeak B V H ts → AllSpeak B (λ v. Stands v (variables_after_all seen ts)) H ts
      all-own-speak seen no_type h = tt
      all-own-speak seen (and_type t ts) h = (
        speaks-more _ _ _ _ H H t (own-speaks seen t h.0) (λ k b. b) (λ v s. all-stay v (variables_after seen t) ts s) (λ h k q. q),
        all-own-speak (variables_after seen t) ts h.1,
      )

count-bound : (f : ℕ → Bool) (vs : List ℕ) → length (attributes (map (λ v. Bind (f v)) vs)) ≡ length vs
count-bound f [] = refl
count-bound f (v ∷ vs) = ap suc (count-bound f vs)

module _ {N : Type 0} (V : ℕ → Type 0) (H : Head N → ℕ → Type 0) (u : MlType N) (f : ℕ → Bool) (v n : ℕ) where
  all-bound : (k i : ℕ) (vs : List ℕ) → i < length vs → k + length vs ≤ n → Speaks (λ j. j < n) V H (type_or (free v) (slice_index_or (substitutes u k (map (λ v. Bind (f v)) vs)) i None))
  unfolding Speaks
  all-bound k i [] l m = absurd (omega arith)
  all-bound k zero (w ∷ vs) l m = omega arith
  all-bound k (suc i) (w ∷ vs) l m = all-bound (suc k) i vs (omega arith) (omega arith)

pub constructor-in : {N : Type 0} (V : ℕ → Type 0) (S : Head N → ℕ → Type 0) (names : List N) (es : List Bool) (t : MlType N) → Speaks (λ k. ⊥) V (IsHeadIn S names) t → IsClosedIn S names (constructor_scheme es t)
unfolding close_as
constructor-in {N} V S names es t h =
    let f : ℕ → Bool = λ v. slice_index_or es v false in
    let vs : List ℕ = variables_after [] t in
    replaced-speaks bound (standing_for vs (substitutes t 0 (map (λ v. Bind (f v)) vs))) _ _ _ _ _ _ t (own-speaks _ _ _ [] t h) (λ k b. absurd b)
    (λ v l. subst (λ m. Speaks (λ j. j < m) (λ v. ⊥) (IsHeadIn S names) (type_or (free v) (slice_index_or (substitutes t 0 (map (λ v. Bind (f v)) vs)) (index_among v vs) None)))
    (sym (count-bound f vs)) (all-bound (λ v. ⊥) (IsHeadIn S names) t f v (length vs) 0 (index_among v vs) vs (index-below v vs l) (omega arith)))
    (λ h k q. q)
