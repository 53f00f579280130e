-- Members of lists.
use Rattle.std.proofs.Common.{◌≡◌, ◌⊎◌, ℕ, suc, ◌≤◌, ◌<◌, List, [], ◌∷◌, ◌++◌, length, map, refl, ap, sym, subst, ◌∙◌, inl, inr, arith}
use Rattle.std.specs.List.{AllByRecursion}
use Rattle.std.proofs.Math.Decide.{ℕ_discrete}
use Rattle.sml_solve.specs.Clashes.{IsOneOf}

pub in-left : {A : Type 0} (x : A) (xs ys : List A) → IsOneOf x xs → IsOneOf x (xs ++ ys)
in-left x [] ys h = absurd h
in-left x (y ∷ xs) ys (inl e) = inl e
in-left x (y ∷ xs) ys (inr h) = inr (in-left x xs ys h)

pub in-right : {A : Type 0} (x : A) (xs ys : List A) → IsOneOf x ys → IsOneOf x (xs ++ ys)
in-right x [] ys h = h
in-right x (y ∷ xs) ys h = inr (in-right x xs ys h)

pub in-either : {A : Type 0} (x : A) (xs ys : List A) → IsOneOf x (xs ++ ys) → IsOneOf x xs ⊎ IsOneOf x ys
in-either x [] ys h = inr h
in-either x (y ∷ xs) ys (inl e) = inl (inl e)
in-either x (y ∷ xs) ys (inr h) = elim (in-either x xs ys h) [ inl k ↦ inl (inr k) | inr k ↦ inr k ]

pub in-map : {A B : Type 0} (f : A → B) (x : A) (xs : List A) → IsOneOf x xs → IsOneOf (f x) (map f xs)
in-map f x [] h = absurd h
in-map f x (y ∷ xs) (inl e) = inl (ap f e)
in-map f x (y ∷ xs) (inr h) = inr (in-map f x xs h)

-- what each of them gives, one after another
abbrev pub gather : {A B : Type 0} → (A → List B) → List A → List B
gather f [] = []
gather f (x ∷ xs) = f x ++ gather f xs

pub in-gather : {A B : Type 0} (f : A → List B) (x : A) (xs : List A) (y : B) → IsOneOf x xs → IsOneOf y (f x) → IsOneOf y (gather f xs)
in-gather f x [] y h k = absurd h
in-gather f x (z ∷ xs) y (inl e) k = in-left y (f z) (gather f xs) (subst (λ w. IsOneOf y (f w)) e k)
in-gather f x (z ∷ xs) y (inr h) k = in-right y (f z) (gather f xs) (in-gather f x xs y h k)

pub gathered : {A B : Type 0} (f : A → List B) (xs : List A) (y : B) → IsOneOf y (gather f xs) → (x : A) × IsOneOf x xs × IsOneOf y (f x)
gathered f [] y h = absurd h
gathered f (x ∷ xs) y h =
    elim (in-either y (f x) (gather f xs) h) [
      | inl k ↦ (x, inl refl, k)
      | inr k ↦ let r = gathered f xs y k in (r.0, inr r.1, r.2)
    ]

pub all-in : {A : Type 0} (P : A → Type 0) (xs : List A) → AllByRecursion P xs → (x : A) → IsOneOf x xs → P x
all-in P [] a x h = absurd h
all-in P (y ∷ xs) a x (inl e) = subst P (sym e) a.0
all-in P (y ∷ xs) a x (inr h) = all-in P xs a.1 x h

pub in-all : {A : Type 0} (P : A → Type 0) (xs : List A) → ((x : A) → IsOneOf x xs → P x) → AllByRecursion P xs
in-all P [] f = tt
in-all P (x ∷ xs) f = (f x (inl refl), in-all P xs (λ y h. f y (inr h)))

-- all are so, or one of them tells something else
pub all-or : {A : Type 0} (P : A → Type 0) (C : Type 0) (xs : List A) → ((x : A) → IsOneOf x xs → P x ⊎ C) → AllByRecursion P xs ⊎ C
all-or P C [] f = inl tt
all-or P C (x ∷ xs) f =
    elim (f x (inl refl)) [
      | inl p ↦ elim (all-or P C xs (λ y h. f y (inr h))) [ inl ps ↦ inl (p, ps) | inr c ↦ inr c ]
      | inr c ↦ inr c
    ]

-- the numbers but for one
abbrev pub kept : {P : Type 0} → Dec P → ℕ → List ℕ → List ℕ
kept (yes p) x xs = xs
kept (no p) x xs = x ∷ xs

abbrev pub without : ℕ → List ℕ → List ℕ
without a [] = []
without a (x ∷ xs) = kept (ℕ_discrete x a) x (without a xs)

pub without-shorter : (a : ℕ) (xs : List ℕ) → length (without a xs) ≤ length xs
without-shorter a [] = omega arith
without-shorter a (x ∷ xs) =
    elim (ℕ_discrete x a) as (λ d. length (kept d x (without a xs)) ≤ suc (length xs)) [
      | yes _ ↦ let h = without-shorter a xs in omega (arith, h)
      | no _ ↦ let h = without-shorter a xs in omega (arith, h)
    ]

pub without-less : (a : ℕ) (xs : List ℕ) → IsOneOf a xs → length (without a xs) < length xs
without-less a [] h = absurd h
without-less a (x ∷ xs) h =
    elim (ℕ_discrete x a) as (λ d. length (kept d x (without a xs)) < suc (length xs)) [
      | yes _ ↦ let k = without-shorter a xs in omega (arith, k)
      | no d ↦ elim h [ inl e ↦ absurd (d (sym e)) | inr r ↦ let k = without-less a xs r in omega (arith, k) ]
    ]

pub in-without : (a b : ℕ) (xs : List ℕ) → (b ≡ a → ⊥) → IsOneOf b xs → IsOneOf b (without a xs)
in-without a b [] d h = absurd h
in-without a b (x ∷ xs) d h =
    elim (ℕ_discrete x a) as (λ e. IsOneOf b (kept e x (without a xs))) [
      | yes e ↦ elim h [ inl f ↦ absurd (d (f ∙ e)) | inr r ↦ in-without a b xs d r ]
      | no _ ↦ elim h [ inl f ↦ inl f | inr r ↦ inr (in-without a b xs d r) ]
    ]
