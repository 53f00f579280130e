-- Where a label stands.
use Rattle.std.proofs.Common.{◌≡◌, ℕ, zero, suc, ◌+◌, ◌<◌, ◌≤◌, nat_lt, Bool, true, false, List, [], ◌∷◌, ◌++◌, length, take, get_or, map, decimal, refl, ap, ◌∙◌, sym, arith}
use Rattle.std.proofs.lemmas.Bool.{ltb-true, ltb-false}
use Rattle.std.proofs.lemmas.Grind.{take_at_read}
use Rattle.std.proofs.lemmas.List.{map-append, length-map}
use Rattle.std.proofs.lemmas.Map.Lookups.{exact_bytes}
use Rattle.std.specs.List.{AllByRecursion}
use Rattle.std.specs.List.Sorted.{IsStrictlySortedBy}
use Rattle.std.specs.Ordering.{nat_cmp, ordering_then, ordering_reverse}
use Rattle.std.specs.declared.cmp.Ordering.{Ordering}
use Rattle.std.specs.declared.cmp.Ordering.TheVariants.{Less, Equal, Greater}
use Rattle.sml_tree.specs.Trees.{Id}
use Rattle.sml_tree.specs.Views.{ident_of}
use Rattle.sml_objects.specs.Labels.{AreRising, StandsAt, label_order, label_rank, numbers}
use Rattle.sml_objects.specs.Maps.{order_of}
use Rattle.sml_objects.proofs.RisingLabels.{Key, ident-at, label_total}
use Rattle.sml_objects.proofs.DecimalLabels.{numbers-push}

all-at : (P : Id → Type 0) (ls : List Id) (i : ℕ) → AllByRecursion P ls → i < length ls → P (get_or ls i [])
all-at P [] i h n = absurd (omega (arith, n))
all-at P (l ∷ ls) zero h n = h.0
all-at P (l ∷ ls) (suc i) h n = all-at P ls i h.1 (omega (arith, n))

rising-far : (ls : List Id) → AreRising ls → (i j : ℕ) → i < j → j < length ls → label_order (get_or ls i []) (get_or ls j []) ≡ Less
unfolding IsStrictlySortedBy
rising-far [] h i j b n = absurd (omega (arith, n))
rising-far (l ∷ ls) h i zero b n = absurd (omega (arith, b))
rising-far (l ∷ ls) h zero (suc j) b n = all-at (λ m. label_order l m ≡ Less) ls j h.0 (omega (arith, n))
rising-far (l ∷ ls) h (suc i) (suc j) b n = rising-far ls h.1 i j (omega (arith, b)) (omega (arith, n))

same-end : (o p : Ordering) → ordering_then o p ≡ Equal → p ≡ Equal
same-end Less p h = cc
same-end Equal p h = h
same-end Greater p h = cc

pub label-exact : (x y : Id) → label_order x y ≡ Equal → x ≡ y
label-exact x y h = exact_bytes x y (same-end (nat_cmp (label_rank x) (label_rank y)) (order_of x y) h)

turned : (x y : Id) → label_order x y ≡ Less → label_order y x ≡ Less → ⊥
turned x y h k = let e : Less ≡ Greater = sym h ∙ label_total.antisymm x y ∙ ap ordering_reverse k in cc

not-both : (x y : Id) → label_order x y ≡ Less → label_order x y ≡ Greater → ⊥
not-both x y h k = let e : Less ≡ Greater = sym h ∙ k in cc

not-own : (x : Id) → label_order x x ≡ Greater → ⊥
not-own x h = let e : Greater ≡ Less = sym h ∙ label_total.antisymm x x ∙ ap ordering_reverse h in cc

-- a label stands after what is below it
pub after : (ls : List Id) (x : Id) (m k : ℕ) → AreRising ls → m < length ls → label_order (get_or ls m []) x ≡ Less → StandsAt ls x k → m < k
after ls x m k r n o s = by (nat_lt m k) refl
  where
    earlier : (b : Bool) → nat_lt k m ≡ b → k ≤ m → ⊥
    earlier true e l = turned (get_or ls m []) x o (ap (λ y. label_order y (get_or ls m [])) (sym s.1) ∙ rising-far ls r k m (ltb-true _ _ e) n)
    earlier false e l =
        let same : k ≡ m = omega (arith, ltb-false _ _ e, l) in
        let here : label_order x x ≡ Less = ap (λ y. label_order y x) (sym s.1 ∙ ap (λ j. get_or ls j []) same) ∙ o in
        turned x x here here

    by : (b : Bool) → nat_lt m k ≡ b → m < k
    by true e = ltb-true _ _ e
    by false e = absurd (earlier (nat_lt k m) refl (ltb-false _ _ e))

-- it stands once
once : (ls : List Id) (x : Id) (i j : ℕ) → AreRising ls → StandsAt ls x i → StandsAt ls x j → ¬ (i < j)
once ls x i j r s t b = let e : label_order x x ≡ Less = (λ q. label_order (sym s.1 q) (sym t.1 q)) ∙ rising-far ls r i j b t.0 in turned x x e e

pub stands-once : (ls : List Id) (x : Id) (i j : ℕ) → AreRising ls → StandsAt ls x i → StandsAt ls x j → i ≡ j
stands-once ls x i j r s t = by (nat_lt i j) (nat_lt j i) refl refl
  where
    by : (a b : Bool) → nat_lt i j ≡ a → nat_lt j i ≡ b → i ≡ j
    by true b e f = absurd (once ls x i j r s t (ltb-true _ _ e))
    by false true e f = absurd (once ls x j i r t s (ltb-true _ _ f))
    by false false e f = omega (arith, ltb-false _ _ e, ltb-false _ _ f)

-- and in front of what is above it
pub in-front : (ls : List Id) (x : Id) (m k : ℕ) → AreRising ls → label_order (get_or ls m []) x ≡ Greater → StandsAt ls x k → k < m
in-front ls x m k r o s = by (nat_lt k m) refl
  where
    later : (b : Bool) → nat_lt m k ≡ b → m ≤ k → ⊥
    later true e l = not-both (get_or ls m []) x (ap (label_order (get_or ls m [])) (sym s.1) ∙ rising-far ls r m k (ltb-true _ _ e) s.0) o
    later false e l =
        let same : k ≡ m = omega (arith, ltb-false _ _ e, l) in
        not-own x (ap (λ y. label_order y x) (sym s.1 ∙ ap (λ j. get_or ls j []) same) ∙ o)

    by : (b : Bool) → nat_lt k m ≡ b → k < m
    by true e = ltb-true _ _ e
    by false e = absurd (later (nat_lt m k) refl (ltb-false _ _ e))

pub stands-at : (xs : List Key) (x : Id) (m : ℕ) (y : Key) → m < length xs → y ≡ get_or xs m y → label_order (ident_of y) x ≡ Equal → StandsAt (map ident_of xs) x m
stands-at xs x m y n h e = (omega (arith, n, length-map xs ident_of), ident-at xs m y h n ∙ label-exact (ident_of y) x e)

numbers-at : (k n i : ℕ) → i < n → get_or (numbers k n) i [] ≡ decimal (k + i)
numbers-at k zero i h = absurd (omega (arith, h))
numbers-at k (suc n) zero h = ap decimal (omega arith)
numbers-at k (suc n) (suc i) h = numbers-at (suc k) n i (omega (arith, h)) ∙ ap decimal (omega arith)

pub number-at : (xs : List Key) (i : ℕ) (x : Key) → i < length xs → x ≡ get_or xs i x → map ident_of xs ≡ numbers 1 (length xs) → ident_of x ≡ decimal (i + 1)
number-at xs i x n h e = sym (ident-at xs i x h n) ∙ ap (λ ls. get_or ls i []) e ∙ numbers-at 1 (length xs) i n ∙ ap decimal (omega arith)

pub number-more : (xs : List Key) (i : ℕ) (x : Key) → i < length xs → x ≡ get_or xs i x → ident_of x ≡ decimal (i + 1) → map ident_of (take i xs) ≡ numbers 1 i
    → map ident_of (take (i + 1) xs) ≡ numbers 1 (i + 1)
number-more xs i x n h e s =
    ap (map ident_of) ((take_at_read xs i x n).1 ∙ ap (λ w. take i xs ++ (w ∷ [])) (sym h))
    ∙ map-append ident_of (take i xs) (x ∷ [])
    ∙ (λ j. s j ++ (e j ∷ []))
    ∙ numbers-push 1 i (i + 1) (i + 1) (omega arith) (omega arith)
