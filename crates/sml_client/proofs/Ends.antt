-- How bytes end.
use Rattle.std.proofs.Common.{◌≡◌, ◌++◌, ◌∷◌, ◌⊎◌, inl, inr, ℕ, List, [], Bool, refl, sym, ap, ◌∙◌, append_assoc, append-nil, subst}
use mathlib.Core.Bool.{true≢false}
use Rattle.sml_client.specs.Lengths.{EachPasses, EndsOff}

abbrev head_of : List ℕ → ℕ
head_of [] = 0
head_of (x ∷ xs) = x

abbrev tail_of : List ℕ → List ℕ
tail_of [] = []
tail_of (x ∷ xs) = xs

pub heads : (x y : ℕ) (xs ys : List ℕ) → x ∷ xs ≡ y ∷ ys → x ≡ y
heads x y xs ys e = ap head_of e

pub tails : (x y : ℕ) (xs ys : List ℕ) → x ∷ xs ≡ y ∷ ys → xs ≡ ys
tails x y xs ys e = ap tail_of e

cons_same : (x y : ℕ) (xs ys : List ℕ) → x ≡ y → xs ≡ ys → x ∷ xs ≡ y ∷ ys
cons_same x y xs ys e f = ap (λ a. a ∷ xs) e ∙ ap (λ l. y ∷ l) f

-- two ways to part one list
pub parted_twice : (xs ys us vs : List ℕ) → xs ++ ys ≡ us ++ vs
    → ((ts : List ℕ) × (xs ≡ us ++ ts) × (vs ≡ ts ++ ys)) ⊎ ((ts : List ℕ) × (us ≡ xs ++ ts) × (ys ≡ ts ++ vs))
parted_twice [] ys us vs e = inr (us, refl, e)
parted_twice (x ∷ xs) ys [] vs e = inl (x ∷ xs, refl, sym e)
parted_twice (x ∷ xs) ys (u ∷ us) vs e =
    elim (parted_twice xs ys us vs (tails x u (xs ++ ys) (us ++ vs) e)) [
      | inl h ↦ inl (h.0, cons_same x u xs (us ++ h.0) (heads x u (xs ++ ys) (us ++ vs) e) h.1, h.2)
      | inr h ↦ inr (h.0, cons_same u x us (xs ++ h.0) (sym (heads x u (xs ++ ys) (us ++ vs) e)) h.1, h.2)
    ]

pub each_first : (p : ℕ → Bool) (xs ys : List ℕ) → EachPasses p (xs ++ ys) → EachPasses p xs
each_first p [] ys h = tt
each_first p (x ∷ xs) ys h = (h.0, each_first p xs ys h.1)

pub each_last : (p : ℕ → Bool) (xs ys : List ℕ) → EachPasses p (xs ++ ys) → EachPasses p ys
each_last p [] ys h = h
each_last p (x ∷ xs) ys h = each_last p xs ys h.1

pub each_both : (p : ℕ → Bool) (xs ys : List ℕ) → EachPasses p xs → EachPasses p ys → EachPasses p (xs ++ ys)
each_both p [] ys h k = k
each_both p (x ∷ xs) ys h k = (h.0, each_both p xs ys h.1 k)

-- a list is empty or has a last element
pub has_last : (xs : List ℕ) → (xs ≡ []) ⊎ ((front : List ℕ) × (b : ℕ) × (xs ≡ front ++ (b ∷ [])))
has_last [] = inl refl
has_last (x ∷ xs) = elim (has_last xs) [ inl e ↦ inr ([], x, ap (λ l. x ∷ l) e) | inr h ↦ inr (x ∷ h.0, h.1, ap (λ l. x ∷ l) h.2) ]

pub last_none : (xs : List ℕ) (b : ℕ) → xs ++ (b ∷ []) ≡ [] → ⊥
last_none [] b e = let f : b ∷ [] ≡ [] = e in cc
last_none (x ∷ xs) b e = let f : x ∷ (xs ++ (b ∷ [])) ≡ [] = e in cc

pub last_same : (xs ys : List ℕ) (x y : ℕ) → xs ++ (x ∷ []) ≡ ys ++ (y ∷ []) → (xs ≡ ys) × (x ≡ y)
last_same [] [] x y e = (refl, heads x y [] [] e)
last_same [] (b ∷ ys) x y e = absurd (last_none ys y (sym (tails x b [] (ys ++ (y ∷ [])) e)))
last_same (a ∷ xs) [] x y e = absurd (last_none xs x (tails a y (xs ++ (x ∷ [])) [] e))
last_same (a ∷ xs) (b ∷ ys) x y e =
    let h = last_same xs ys x y (tails a b (xs ++ (x ∷ [])) (ys ++ (y ∷ [])) e) in
    (cons_same a b xs ys (heads a b (xs ++ (x ∷ [])) (ys ++ (y ∷ [])) e) h.0, h.1)

pub off_end : (p : ℕ → Bool) (xs ts : List ℕ) → EndsOff p (xs ++ ts) → EachPasses p ts → ts ≡ []
off_end p xs ts off each =
    elim (has_last ts) [
      | inl e ↦ e
      | inr h ↦ absurd (elim off [
        | inl e ↦ last_none (xs ++ h.0) h.1 (append_assoc xs h.0 (h.1 ∷ []) ∙ sym (ap (λ l. xs ++ l) h.2) ∙ e)
        | inr k ↦ true≢false (sym (each_last p h.0 (h.1 ∷ []) (subst (EachPasses p) h.2 each)).0
            ∙ ap p (last_same (xs ++ h.0) k.0 h.1 k.1 (append_assoc xs h.0 (h.1 ∷ []) ∙ sym (ap (λ l. xs ++ l) h.2) ∙ k.2)).1 ∙ k.3)
      ])
    ]

-- what passes a test at the end is the same, however it is found
pub leaves_same : (p : ℕ → Bool) (xs ys us vs : List ℕ) → xs ++ ys ≡ us ++ vs → EachPasses p ys → EndsOff p xs → EachPasses p vs → EndsOff p us → (xs ≡ us) × (ys ≡ vs)
leaves_same p xs ys us vs e each off each' off' =
    elim (parted_twice xs ys us vs e) [
      | inl h ↦
          let none : h.0 ≡ [] = off_end p us h.0 (subst (EndsOff p) h.1 off) (each_first p h.0 ys (subst (EachPasses p) h.2 each')) in
          (h.1 ∙ ap (λ l. us ++ l) none ∙ append-nil us, sym (h.2 ∙ ap (λ l. l ++ ys) none))
      | inr h ↦
          let none : h.0 ≡ [] = off_end p xs h.0 (subst (EndsOff p) h.1 off') (each_first p h.0 vs (subst (EachPasses p) h.2 each)) in
          (sym (h.1 ∙ ap (λ l. xs ++ l) none ∙ append-nil xs), h.2 ∙ ap (λ l. l ++ vs) none)
    ]
