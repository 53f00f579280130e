-- Labels in their order.
use Rattle.std.proofs.Common.{◌≡◌, ℕ, zero, suc, ◌+◌, ◌-◌, ◌<◌, ◌≤◌, nat_lt, Bool, true, false, List, [], ◌∷◌, ◌++◌, take, length, get_or, map, refl, ap, ◌∙◌, sym, arith, Vec, Global}
use Rattle.std.proofs.lemmas.Bool.{ltb-true, ltb-false}
use Rattle.std.proofs.lemmas.List.{get_or-map, length-map, map-append}
use Rattle.std.proofs.lemmas.Grind.{take_at_read}
use Rattle.std.specs.Ordering.{is_lt}
use Rattle.std.specs.declared.cmp.Ordering.{Ordering}
use Rattle.std.specs.declared.rc.Rc.{Rc}
use Rattle.sml_tree.specs.Views.{ident_of}
use Rattle.std.proofs.lemmas.Cmp.{nat_list_cmp_total, nat_cmp_total, then_total}
use Rattle.std.specs.Cmp.{IsTotalOrder, on_total}
use Rattle.std.specs.List.{AllByRecursion}
use Rattle.std.specs.List.Sorted.{IsStrictlySortedBy}
use Rattle.std.specs.declared.cmp.Ordering.TheVariants.{Less, Equal, Greater}
use Rattle.sml_tree.specs.Trees.{Id}
use Rattle.sml_objects.specs.Labels.{AreRising, label_order, label_rank}

pub label_total : IsTotalOrder label_order
label_total = then_total (on_total label_rank nat_cmp_total) nat_list_cmp_total

-- each label is below the next one
abbrev pub AreSteps : List Id → Type 0
AreSteps ls = (k : ℕ) → suc k < length ls → label_order (get_or ls k []) (get_or ls (suc k) []) ≡ Less

pub below-all : (l m : Id) (ls : List Id) → label_order l m ≡ Less → AllByRecursion (λ x. label_order m x ≡ Less) ls → AllByRecursion (λ x. label_order l x ≡ Less) ls
below-all l m [] h k = tt
below-all l m (x ∷ ls) h k = (label_total.trans l m x h k.0, below-all l m ls h k.1)

pub rising-steps : (ls : List Id) → AreSteps ls → AreRising ls
unfolding IsStrictlySortedBy
rising-steps [] h = tt
rising-steps (l ∷ []) h = (tt, tt)
rising-steps (l ∷ m ∷ ls) h =
    let first = h 0 (omega arith) in
    let others = rising-steps (m ∷ ls) (λ k below. h (suc k) (omega (arith, below))) in
    ((first, below-all l m ls first others.0), others)

pub steps-rising : (ls : List Id) → AreRising ls → AreSteps ls
unfolding IsStrictlySortedBy
steps-rising [] h k below = absurd (omega (arith, below))
steps-rising (l ∷ []) h k below = absurd (omega (arith, below))
steps-rising (l ∷ m ∷ ls) h zero below = h.0.0
steps-rising (l ∷ m ∷ ls) h (suc k) below = steps-rising (m ∷ ls) h.1 k (omega (arith, below))

abbrev pub Key : Type 0
Key = Rc (Vec ℕ Global) Global

pub ident-at : (xs : List Key) (i : ℕ) (x : Key) → x ≡ get_or xs i x → i < length xs → get_or (map ident_of xs) i [] ≡ ident_of x
ident-at xs i x h l = get_or-map ident_of xs i x [] l ∙ ap ident_of (sym h)

-- so many labels are each below the next one
abbrev pub AreStepsTo : ℕ → List Key → Type 0
AreStepsTo n xs = (k : ℕ) → suc k < n → label_order (get_or (map ident_of xs) k []) (get_or (map ident_of xs) (suc k) []) ≡ Less

pub steps-more : (xs : List Key) (i : ℕ) (x y : Key) → 0 < i → i < length xs → x ≡ get_or xs (i - 1) x → y ≡ get_or xs i y
    → label_order (ident_of x) (ident_of y) ≡ Less → AreStepsTo i xs → AreStepsTo (i + 1) xs
steps-more xs i x y p l hx hy o s k below = by (nat_lt (suc k) i) refl
  where
    by : (b : Bool) → nat_lt (suc k) i ≡ b → label_order (get_or (map ident_of xs) k []) (get_or (map ident_of xs) (suc k) []) ≡ Less
    by true e = s k (ltb-true _ _ e)
    by false e =
        let e1 : k ≡ i - 1 = omega (arith, ltb-false _ _ e, below, p) in
        let e2 : suc k ≡ i = omega (arith, ltb-false _ _ e, below, p) in
        let a = ap (λ n. get_or (map ident_of xs) n []) e1 ∙ ident-at xs (i - 1) x hx (omega (arith, l)) in
        let b = ap (λ n. get_or (map ident_of xs) n []) e2 ∙ ident-at xs i y hy l in
        (λ j. label_order (a j) (b j)) ∙ o

pub not-rising : (xs : List Key) (i : ℕ) (x y : Key) → 0 < i → i < length xs → x ≡ get_or xs (i - 1) x → y ≡ get_or xs i y
    → ¬ (label_order (ident_of x) (ident_of y) ≡ Less) → ¬ (AreRising (map ident_of xs))
not-rising xs i x y p l hx hy n r =
    let e : suc (i - 1) ≡ i = omega (arith, p) in
    n (
    (λ j. label_order (sym (ident-at xs (i - 1) x hx (omega (arith, l))) j) (sym (ap (λ m. get_or (map ident_of xs) m []) e ∙ ident-at xs i y hy l) j))
    ∙ steps-rising (map ident_of xs) r (i - 1) (omega (arith, e, l, length-map xs ident_of))
    )

pub all-steps : (xs : List Key) (n : ℕ) → length xs ≤ n → AreStepsTo n xs → AreRising (map ident_of xs)
all-steps xs n l s = rising-steps (map ident_of xs) (λ k below. s k (omega (arith, below, l, length-map xs ident_of)))

pub same-at : (xs ys : List Key) (i : ℕ) (x y : Key) → i < length xs → i < length ys → x ≡ get_or xs i x → y ≡ get_or ys i y
    → map ident_of xs ≡ map ident_of ys → ident_of x ≡ ident_of y
same-at xs ys i x y l m hx hy e = sym (ident-at xs i x hx l) ∙ ap (λ zs. get_or zs i []) e ∙ ident-at ys i y hy m

pub lower-less : (o : Ordering) → is_lt o ≡ true → o ≡ Less
lower-less Less h = refl
lower-less Equal h = cc
lower-less Greater h = cc

pub not-lower : (o : Ordering) → is_lt o ≡ false → ¬ (o ≡ Less)
not-lower o h e = let f : false ≡ true = sym h ∙ ap is_lt e in cc

pub same-more : (xs ys : List Key) (i : ℕ) (x y : Key) → i < length xs → i < length ys → x ≡ get_or xs i x → y ≡ get_or ys i y → ident_of x ≡ ident_of y
    → map ident_of (take i xs) ≡ map ident_of (take i ys) → map ident_of (take (i + 1) xs) ≡ map ident_of (take (i + 1) ys)
same-more xs ys i x y l m hx hy e h =
    let taken : (zs : List Key) (z : Key) → i < length zs → z ≡ get_or zs i z → map ident_of (take (i + 1) zs) ≡ map ident_of (take i zs) ++ (ident_of z ∷ []) =
    λ zs z n k. ap (map ident_of) ((take_at_read zs i z n).1 ∙ ap (λ w. take i zs ++ (w ∷ [])) (sym k)) ∙ map-append ident_of (take i zs) (z ∷ []) in
    taken xs x l hx ∙ (λ j. h j ++ (e j ∷ [])) ∙ sym (taken ys y m hy)
