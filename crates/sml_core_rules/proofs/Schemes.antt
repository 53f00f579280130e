-- The demands leave a type one scheme, and closing leaves the size as it is.
use Rattle.std.proofs.Common.{◌≡◌, ◌↔◌, ◌≤◌, ℕ, zero, suc, inl, inr, Bool, true, false, None, cond, List, [], ◌∷◌, ◌++◌, map, slice_index_or, nat_eq, refl, sym, ◌∙◌, ap, subst, arith}
use Rattle.std.specs.List.{AllByRecursion, list_any}
use Rattle.std.proofs.lemmas.Bool.{cases_order}
use Rattle.sml_objects.specs.declared.fates.Fate.{Fate}
use Rattle.sml_objects.specs.declared.fates.Fate.TheVariants.{Bind, Keep, Default}
use Rattle.sml_objects.specs.Fates.{close_as, substitutes, standing_for, type_or}
use Rattle.sml_objects.specs.Names.{int}
use Rattle.sml_objects.specs.Objects.{MlType, MlTypes, Head, Scheme, bound, free, app, arrow, row, name, no_type, and_type, types_of, named}
use Rattle.sml_objects.specs.Sizes.{type_size, types_size}
use Rattle.sml_objects.specs.Types.{assign, replace_type, replace_types, variables_after, variables_after_all, index_among}
use Rattle.sml_layers.specs.declared.layer.Layer.TheVariants.{Finiteness}
use Rattle.sml_layers.specs.Worlds.{Assignment, finite}
use Rattle.sml_core_rules.specs.States.{Scope, State}
use Rattle.sml_core_rules.specs.Solutions.{Meets, MayBe, HasOneSetOfLabels, IsLeft, IsOfLeft, AreOfLeft, StandsFor, IsFateOf, IsScheme, StandsForSmall}

-- the types in a list
listed : {N : Type 0} → MlTypes N → List (MlType N)
listed no_type = []
listed (and_type t ts) = t ∷ listed ts

listed-back : {N : Type 0} (ts : MlTypes N) → types_of (listed ts) ≡ ts
unfolding listed
listed-back no_type = refl
listed-back (and_type t ts) = ap (and_type t) (listed-back ts)

-- a type with another head than this
other : {N : Type 0} → Head N → MlType N
other arrow = app (row []) no_type
other (row ls) = app arrow no_type
other (name n) = app arrow no_type

other-differs : {N : Type 0} (h : Head N) (ts : MlTypes N) → other h ≡ app h ts → ⊥
unfolding other
other-differs arrow ts e = let f : app (row []) no_type ≡ app arrow ts = e in absurd cc
other-differs (row ls) ts e = let f : app arrow no_type ≡ app (row ls) ts = e in absurd cc
other-differs (name n) ts e = let f : app arrow no_type ≡ app (name n) ts = e in absurd cc

module _ {P N : Type 0} (scope : Scope N) (s : State P N) (σ : Assignment N finite) (met : Meets scope s Finiteness σ) where
  -- an unknown that is left is no head over types
  loose : (v : ℕ) (h : Head N) (ts : MlTypes N) → IsLeft scope s v → ((τ : Assignment N finite) → Meets scope s Finiteness τ → τ v ≡ app h (replace_types bound τ ts)) → ⊥
  unfolding MayBe HasOneSetOfLabels replace_type
  loose v h ts l e = elim l.1 [
    | inl f ↦ let m = f (other h) in other-differs h (replace_types bound m.0 ts) (sym m.2 ∙ e m.0 m.1)
    | inr f ↦
        let fields = f.0 σ met in
        let p : app h (replace_types bound σ ts) ≡ app (row fields.labels) (types_of fields.types) = sym (e σ met) ∙ fields.is_row in
        let q : h ≡ row fields.labels = cc in
        f.1 (fields.labels, (λ τ m. (listed (replace_types bound τ ts), e τ m ∙ λ i. app (q i) (sym (listed-back (replace_types bound τ ts)) i))))
  ]

  mutual
    unfolding IsOfLeft AreOfLeft replace_type replace_types

    told-apart : (r q : MlType N) → IsOfLeft scope s r → IsOfLeft scope s q → ((τ : Assignment N finite) → Meets scope s Finiteness τ → assign τ r ≡ assign τ q) → r ≡ q
    told-apart (bound k) q m n e = absurd m
    told-apart (free v) (bound k) m n e = absurd n
    told-apart (free v) (free w) m n e = elim (cases_order v w) [
      | inl p ↦ ap free p
      | inr f ↦ elim f [ inl l ↦ let d = n.2 v l in absurd (d.2 (e d.0 d.1)) | inr l ↦ let d = m.2 w l in absurd (d.2 (sym (e d.0 d.1))) ]
    ]
    told-apart (free v) (app h ts) m n e = absurd (loose v h ts m e)
    told-apart (app h ts) (bound k) m n e = absurd n
    told-apart (app h ts) (free v) m n e = absurd (loose v h ts n (λ τ k. sym (e τ k)))
    told-apart (app h ts) (app k us) m n e =
        let f : app h (replace_types bound σ ts) ≡ app k (replace_types bound σ us) = e σ met in
        let a : h ≡ k = cc in
        let c = all-told-apart ts us m n (λ τ k. parts (e τ k)) in λ i. app (a i) (c i)
      where
        parts : {h k : Head N} {ts us : MlTypes N} → app h ts ≡ app k us → ts ≡ us
        parts f = cc

    all-told-apart : (ts us : MlTypes N) → AreOfLeft scope s ts → AreOfLeft scope s us → ((τ : Assignment N finite) → Meets scope s Finiteness τ → replace_types bound τ ts ≡ replace_types bound τ us) → ts ≡ us
    all-told-apart no_type no_type m n e = refl
    all-told-apart no_type (and_type t us) m n e = let f : no_type ≡ and_type (assign σ t) (replace_types bound σ us) = e σ met in absurd cc
    all-told-apart (and_type t ts) no_type m n e = let f : and_type (assign σ t) (replace_types bound σ ts) ≡ no_type = e σ met in absurd cc
    all-told-apart (and_type t ts) (and_type u us) m n e =
        let c = told-apart t u m.0 n.0 (λ τ k. first (e τ k)) in
        let d = all-told-apart ts us m.1 n.1 (λ τ k. others (e τ k)) in λ i. and_type (c i) (d i)
      where
        first : {t u : MlType N} {ts us : MlTypes N} → and_type t ts ≡ and_type u us → t ≡ u
        first f = cc

        others : {t u : MlType N} {ts us : MlTypes N} → and_type t ts ≡ and_type u us → ts ≡ us
        others f = cc

  one-type : (t r q : MlType N) → StandsFor scope s t r → StandsFor scope s t q → r ≡ q
  unfolding StandsFor
  one-type t r q x y = told-apart r q x.0 y.0 (λ τ m. x.1 τ m ∙ sym (y.1 τ m))

-- an unknown has one fate

same-flag : {A : Type 0} (a b : Bool) → (a ≡ true) ↔ A → (b ≡ true) ↔ A → a ≡ b
same-flag true true p q = refl
same-flag true false p q = sym (q.1 (p.0 refl))
same-flag false true p q = p.1 (q.0 refl)
same-flag false false p q = refl

module _ {P N : Type 0} (scope : Scope N) (s : State P N) (n : ℕ) (x : Bool) (v : ℕ) where
  bind-keep : (e : Bool) → IsFateOf scope s n x v (Bind e) → IsFateOf scope s n x v Keep → ⊥
  bind-keep e p q = elim q.1 [ inl y ↦ let z : true ≡ false = sym y ∙ p.1 in cc | inr m ↦ elim m [ inl a ↦ p.2 a | inr f ↦ p.3 f ] ]

  one-fate : (f g : Fate) → IsFateOf scope s n x v f → IsFateOf scope s n x v g → f ≡ g
  one-fate (Bind a) (Bind b) p q = ap Bind (same-flag a b p.4 q.4)
  one-fate (Bind a) Keep p q = absurd (bind-keep a p q)
  one-fate (Bind a) Default p q = absurd (p.0 q)
  one-fate Keep (Bind b) p q = absurd (bind-keep b q p)
  one-fate Keep Keep p q = refl
  one-fate Keep Default p q = absurd (p.0 q)
  one-fate Default (Bind b) p q = absurd (q.0 p)
  one-fate Default Keep p q = absurd (q.0 p)
  one-fate Default Default p q = refl

-- the variables of a type that speaks of unknowns that are left

added : {X : Type 0} (Q : X → Type 0) (xs : List X) (x : X) → AllByRecursion Q xs → Q x → AllByRecursion Q (xs ++ x ∷ [])
added Q [] x a h = (h, tt)
added Q (y ∷ ys) x a h = (a.0, added Q ys x a.1 h)

seen-also : (Q : ℕ → Type 0) (v : ℕ) (b : Bool) (seen : List ℕ) → AllByRecursion Q seen → Q v → AllByRecursion Q (cond b seen (seen ++ v ∷ []))
seen-also Q v true seen a h = a
seen-also Q v false seen a h = added Q seen v a h

module _ {P N : Type 0} (scope : Scope N) (s : State P N) where
  mutual
    unfolding IsOfLeft AreOfLeft variables_after variables_after_all

    pub variables-left : (seen : List ℕ) (t : MlType N) → AllByRecursion (IsLeft scope s) seen → IsOfLeft scope s t → AllByRecursion (IsLeft scope s) (variables_after seen t)
    variables-left seen (bound k) a m = absurd m
    variables-left seen (free v) a m = seen-also (IsLeft scope s) v (list_any (nat_eq v) seen) seen a m
    variables-left seen (app h ts) a m = all-variables-left seen ts a m

    all-variables-left : (seen : List ℕ) (ts : MlTypes N) → AllByRecursion (IsLeft scope s) seen → AreOfLeft scope s ts → AllByRecursion (IsLeft scope s) (variables_after_all seen ts)
    all-variables-left seen no_type a m = a
    all-variables-left seen (and_type t ts) a m = all-variables-left (variables_after seen t) ts (variables-left seen t a m.0) m.1

  same-fates : (n : ℕ) (x : Bool) (f g : ℕ → Fate) (vs : List ℕ) → AllByRecursion (λ v. IsFateOf scope s n x v (f v)) vs → AllByRecursion (λ v. IsFateOf scope s n x v (g v)) vs → map f vs ≡ map g vs
  same-fates n x f g [] p q = refl
  same-fates n x f g (v ∷ vs) p q = λ i. one-fate scope s n x v (f v) (g v) p.0 q.0 i ∷ same-fates n x f g vs p.1 q.1 i

  pub one-scheme : (σ : Assignment N finite) → Meets scope s Finiteness σ → (n : ℕ) (x : Bool) (t : MlType N) (θ η : Scheme N) → IsScheme scope s n x t θ → IsScheme scope s n x t η → θ ≡ η
  unfolding IsScheme StandsFor
  one-scheme σ met n x t θ η (r, a, f, p, e) (q, b, g, k, h) =
      let same : r ≡ q = one-type scope s σ met t r q a b in
      let fates : map f (variables_after [] r) ≡ map g (variables_after [] r) =
      same-fates n x f g (variables_after [] r) p (subst (λ q. AllByRecursion (λ v. IsFateOf scope s n x v (g v)) (variables_after [] q)) (sym same) k) in
      e ∙ (ap (λ fs. close_as (named (scope.names.initial int)) fs r) fates ∙ (ap (λ q. close_as (named (scope.names.initial int)) (map g (variables_after [] q)) q) same ∙ sym h))

-- sizes

module _ {N : Type 0} (t : MlType N) (one : type_size t ≡ 1) where
  substitute-size : (v k i : ℕ) (fs : List Fate) → type_size (type_or (free v) (slice_index_or (substitutes t k fs) i None)) ≡ 1
  unfolding type_size
  substitute-size v k i [] = refl
  substitute-size v k zero (Bind e ∷ fs) = refl
  substitute-size v k zero (Keep ∷ fs) = refl
  substitute-size v k zero (Default ∷ fs) = one
  substitute-size v k (suc i) (Bind e ∷ fs) = substitute-size v (suc k) i fs
  substitute-size v k (suc i) (Keep ∷ fs) = substitute-size v k i fs
  substitute-size v k (suc i) (Default ∷ fs) = substitute-size v k i fs

  mutual
    unfolding type_size types_size replace_type replace_types

    assigned-size : (f : ℕ → MlType N) → ((v : ℕ) → type_size (f v) ≡ 1) → (u : MlType N) → type_size (assign f u) ≡ type_size u
    assigned-size f single (bound k) = refl
    assigned-size f single (free v) = single v
    assigned-size f single (app h ts) = ap suc (all-assigned-size f single ts)

    all-assigned-size : (f : ℕ → MlType N) → ((v : ℕ) → type_size (f v) ≡ 1) → (ts : MlTypes N) → types_size (replace_types bound f ts) ≡ types_size ts
    all-assigned-size f single no_type = refl
    all-assigned-size f single (and_type u ts) = omega (arith, assigned-size f single u, all-assigned-size f single ts)

  pub closed-size : (fs : List Fate) (r : MlType N) → type_size (close_as t fs r).body ≡ type_size r
  unfolding close_as
  closed-size fs r = assigned-size (standing_for (variables_after [] r) (substitutes t 0 fs)) (λ v. substitute-size v 0 (index_among v (variables_after [] r)) fs) r

pub named-size : {N : Type 0} (n : N) → type_size (named n) ≡ 1
unfolding type_size types_size
named-size n = refl

module _ {P N : Type 0} (scope : Scope N) where
  pub scheme-size : (s : State P N) (n : ℕ) (x : Bool) (t : MlType N) (σ : Scheme N) → IsScheme scope s n x t σ → (r : MlType N) × StandsFor scope s t r × (type_size σ.body ≡ type_size r)
  unfolding IsScheme
  scheme-size s n x t σ (r, stands, fate, fates, e) =
      (r, stands, ap (λ (σ : Scheme N). type_size σ.body) e ∙ closed-size (named (scope.names.initial int)) (named-size (scope.names.initial int)) (map fate (variables_after [] r)) r)

  pub scheme-small : (s : State P N) (n : ℕ) (x : Bool) (t : MlType N) (σ : Scheme N) → IsScheme scope s n x t σ → type_size σ.body ≤ 10000 → StandsForSmall scope s t
  scheme-small s n x t σ is le =
      let z : (r : MlType N) × StandsFor scope s t r × (type_size σ.body ≡ type_size r) = scheme-size s n x t σ is in (z.0, z.1, subst (λ k. k ≤ 10000) z.2 le)
