-- So many of a list at most.
use Rattle.std.proofs.Common.{◌≡◌, ℕ, zero, suc, ◌+◌, ◌-◌, ◌≤◌, List, [], ◌∷◌, ◌++◌, Option, Some, None, true, false, map, length, take, drop, refl, ap, ◌∙◌, arith, length-drop}
use Rattle.std.proofs.lemmas.List.{take_all}
use Rattle.std.proofs.lemmas.Bool.{leb-true, leb-false}
use Rattle.sml_lex.proofs.MachineRuns.{false_is_true}
use Rattle.sml_reach.specs.Reach.{up_to, is_full}

-- so many at most of two lists, of which the first is within that
abbrev pub left : Option ℕ → ℕ → Option ℕ
left None count = None
left (Some most) count = Some (most - count)

abbrev pub IsShort : Option ℕ → ℕ → Type 0
IsShort None count = Unit {0}
IsShort (Some most) count = count ≤ most

take_past : {A : Type 0} (xs ys : List A) (k : ℕ) → take (length xs + k) (xs ++ ys) ≡ xs ++ take k ys
take_past [] ys k = ap (λ n. take n ys) (let e : 0 + k ≡ k = omega arith in e)
take_past (x ∷ xs) ys k = ap (λ n. take n (x ∷ (xs ++ ys))) (let e : suc (length xs) + k ≡ suc (length xs + k) = omega arith in e) ∙ ap (λ zs. x ∷ zs) (take_past xs ys k)

pub up_to-append : {A : Type 0} (most : Option ℕ) (xs ys : List A) → IsShort most (length xs) → up_to most (xs ++ ys) ≡ xs ++ up_to (left most (length xs)) ys
up_to-append None xs ys s = refl
up_to-append (Some most) xs ys s = ap (λ n. take n (xs ++ ys)) (let e : most ≡ length xs + (most - length xs) = omega (arith, s) in e) ∙ take_past xs ys (most - length xs)

-- where another may come
abbrev pub fewer : Option ℕ → Option ℕ
fewer None = None
fewer (Some n) = Some (n - 1)

pub up_to-more : {A : Type 0} (most : Option ℕ) (count : ℕ) (y : A) (ys : List A) → is_full most count ≡ false → up_to (left most count) (y ∷ ys) ≡ y ∷ up_to (fewer (left most count)) ys
up_to-more None count y ys f = refl
up_to-more (Some most) count y ys f =
    let l = leb-false most count f in
    let e : most - count ≡ suc (most - count - 1) = omega (arith, l) in
    ap (λ n. take n (y ∷ ys)) e

-- where none may
pub up_to-none : {A : Type 0} (most : Option ℕ) (count : ℕ) (ys : List A) → is_full most count ≡ true → up_to (left most count) ys ≡ []
up_to-none None count ys f = absurd (false_is_true f)
up_to-none (Some most) count ys f = ap (λ n. take n ys) (let l = leb-true most count f in let e : most - count ≡ 0 = omega (arith, l) in e)

pub up_to-nil : {A : Type 0} (most : Option ℕ) → up_to {A = A} most [] ≡ []
up_to-nil None = refl
up_to-nil (Some zero) = refl
up_to-nil (Some (suc n)) = refl

pub length-map : {A B : Type 0} (f : A → B) (xs : List A) → length (map f xs) ≡ length xs
length-map f [] = refl
length-map f (x ∷ xs) = ap suc (length-map f xs)

-- the slice from a place on
pub all_left : {A : Type 0} (xs : List A) (i : ℕ) → take (length xs - i) (drop i xs) ≡ drop i xs
all_left xs i = take_all (length xs - i) (drop i xs) (omega (arith, length-drop i xs))
