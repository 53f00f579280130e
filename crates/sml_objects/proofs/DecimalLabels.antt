-- The decimals of numbers, as labels.
use Rattle.std.proofs.Common.{◌≡◌, ℕ, zero, suc, ◌+◌, ◌-◌, ◌/◌, ◌%◌, ◌^◌, ◌<◌, ◌≤◌, ◌⊎◌, inl, inr, Bool, true, false, cond, ◌&&◌, nat_lt, [], ◌∷◌, ◌++◌, length, length-append, decimal, refl, ap, ◌∙◌, sym, subst, arith}
use Rattle.std.proofs.lemmas.Bool.{lt-ltb, ltb-true, ltb-false}
use Rattle.std.proofs.lemmas.Fmt.{decimal_digit, decimal_step, decimal_by_steps, decimal_nonempty}
use Rattle.std.specs.Cmp.{nat_cmp_is}
use Rattle.std.specs.List.Sorted.{IsStrictlySortedBy}
use Rattle.std.specs.Ordering.{nat_cmp, ordering_then}
use Rattle.std.specs.declared.cmp.Ordering.{Ordering}
use Rattle.std.specs.declared.cmp.Ordering.TheVariants.{Less, Equal, Greater}
use Rattle.sml_tree.specs.Trees.{Id}
use Rattle.sml_objects.specs.Labels.{AreRising, is_number, label_order, label_rank, numbers}
use Rattle.sml_objects.specs.Maps.{order_of}
use Rattle.sml_objects.proofs.RisingLabels.{below-all}

nat-less : (x y : ℕ) → x < y → nat_cmp x y ≡ Less
nat-less x y h = sym (nat_cmp_is x y Less h)

nat-same : (x y : ℕ) → x ≡ y → nat_cmp x y ≡ Equal
nat-same x y h = sym (nat_cmp_is x y Equal h)

-- shorter, or as long and lower
IsLower : Id → Id → Type 0
IsLower x y = (length x < length y) ⊎ ((length x ≡ length y) × (order_of x y ≡ Less))

order-prefix : (x a b : Id) → order_of (x ++ a) (x ++ b) ≡ order_of a b
order-prefix [] a b = refl
order-prefix (c ∷ x) a b = ap (λ o. ordering_then o (order_of (x ++ a) (x ++ b))) (nat-same c c refl) ∙ order-prefix x a b

then-less : (o p q : Ordering) → (p ≡ Less → q ≡ Less) → ordering_then o p ≡ Less → ordering_then o q ≡ Less
then-less Less p q f h = refl
then-less Equal p q f h = f h
then-less Greater p q f h = h

order-append : (x y a b : Id) → length x ≡ length y → order_of x y ≡ Less → order_of (x ++ a) (y ++ b) ≡ Less
order-append [] [] a b e h = absurd (let P : Ordering → Type 0 = λ o. elim o [ Less ↦ ⊥ | Equal ↦ Unit {0} | Greater ↦ Unit {0} ] in subst P h tt)
order-append [] (d ∷ y) a b e h = absurd (omega (arith, e))
order-append (c ∷ x) [] a b e h = absurd (omega (arith, e))
order-append (c ∷ x) (d ∷ y) a b e h = then-less (nat_cmp c d) _ _ (order-append x y a b (omega (arith, e))) h

-- a digit more on both
lower-digits : (x y : Id) (c d : ℕ) → IsLower x y → IsLower (x ++ (c ∷ [])) (y ++ (d ∷ []))
unfolding IsLower
lower-digits x y c d (inl h) = inl (omega (arith, h, length-append x (c ∷ []), length-append y (d ∷ [])))
lower-digits x y c d (inr h) = inr (omega (arith, h.0, length-append x (c ∷ []), length-append y (d ∷ [])), order-append x y (c ∷ []) (d ∷ []) h.0 h.1)

lower-last : (x : Id) (c d : ℕ) → c < d → IsLower (x ++ (c ∷ [])) (x ++ (d ∷ []))
unfolding IsLower
lower-last x c d h =
    inr (omega (arith, length-append x (c ∷ []), length-append x (d ∷ [])), order-prefix x (c ∷ []) (d ∷ []) ∙ ap (λ o. ordering_then o Equal) (nat-less c d h))

abbrev Next : ℕ → Type 0
Next k = IsLower (decimal k) (decimal (suc k))

-- from the two texts
next-from : (k : ℕ) (x y : Id) → decimal k ≡ x → decimal (suc k) ≡ y → IsLower x y → Next k
next-from k x y e f h = let P : Id → Id → Type 0 = IsLower in subst (λ l. P l (decimal (suc k))) (sym e) (subst (P x) (sym f) h)

next-digit : (k : ℕ) → k < 9 → Next k
next-digit k h = next-from k _ _ (decimal_digit k (omega (arith, h))) (decimal_digit (suc k) (omega (arith, h))) (lower-last [] (48 + k) (48 + suc k) (omega arith))

next-ten : (k : ℕ) → k ≡ 9 → Next k
unfolding IsLower
next-ten k e =
    next-from k _ _ (decimal_digit k (omega (arith, e))) (decimal_step (suc k) (omega (arith, e)) (omega (arith, e)))
    (inl (omega (arith, decimal_nonempty (suc k / 10) (omega (arith, e)), length-append (decimal (suc k / 10)) ((48 + suc k % 10) ∷ []))))

next-last : (k : ℕ) → 10 ≤ k → suc k < 2 ^ 64 → suc k / 10 ≡ k / 10 → Next k
next-last k h10 h e =
    next-from k _ _ (decimal_step k h10 (omega (arith, h))) (decimal_step (suc k) (omega (arith, h10)) h ∙ ap (λ q. decimal q ++ ((48 + suc k % 10) ∷ [])) e)
    (lower-last (decimal (k / 10)) (48 + k % 10) (48 + suc k % 10) (omega (arith, e)))

next-carry : (k : ℕ) → 10 ≤ k → suc k < 2 ^ 64 → suc k / 10 ≡ suc (k / 10) → Next (k / 10) → Next k
next-carry k h10 h e r =
    next-from k _ _ (decimal_step k h10 (omega (arith, h))) (decimal_step (suc k) (omega (arith, h10)) h ∙ ap (λ q. decimal q ++ ((48 + suc k % 10) ∷ [])) e)
    (lower-digits _ _ (48 + k % 10) (48 + suc k % 10) r)

next-sized : (k : ℕ) → suc k < 2 ^ 64 → (10 ≤ k → Next (k / 10)) → Next k
next-sized k h r = by (nat_lt k 9) refl
  where
    carried : (b : Bool) → nat_lt (k % 10) 9 ≡ b → 10 ≤ k → Next k
    carried true e h10 = next-last k h10 h (omega (arith, ltb-true _ _ e))
    carried false e h10 = next-carry k h10 h (omega (arith, ltb-false _ _ e)) (r h10)

    at_ten : (b : Bool) → nat_lt k 10 ≡ b → 9 ≤ k → Next k
    at_ten true e h9 = next-ten k (omega (arith, ltb-true _ _ e, h9))
    at_ten false e h9 = carried (nat_lt (k % 10) 9) refl (ltb-false _ _ e)

    by : (b : Bool) → nat_lt k 9 ≡ b → Next k
    by true e = next-digit k (ltb-true _ _ e)
    by false e = at_ten (nat_lt k 10) refl (ltb-false _ _ e)

decimal-next : (fuel k : ℕ) → k < fuel → suc k < 2 ^ 64 → Next k
decimal-next zero k f h = absurd (omega (arith, f))
decimal-next (suc fuel) k f h = next-sized k h (λ h10. decimal-next fuel (k / 10) (omega (arith, f, h10)) (omega (arith, h)))

digit_first : (n : ℕ) → n < 10 → 0 < n → is_number ((48 + n) ∷ []) ≡ true
digit_first n h p = λ i. lt-ltb 48 (48 + n) (omega arith) i && lt-ltb (48 + n) 58 (omega arith) i

number-append : (ds es : Id) → is_number ds ≡ true → is_number (ds ++ es) ≡ true
number-append [] es h = absurd (let P : Bool → Type 0 = λ b. elim b [ true ↦ ⊥ | false ↦ Unit {0} ] in subst P h tt)
number-append (d ∷ ds) es h = h

decimal-number : (n : ℕ) → 0 < n → n < 2 ^ 64 → is_number (decimal n) ≡ true
decimal-number n p h =
    decimal_by_steps (λ n ds. 0 < n → is_number ds ≡ true) digit_first (λ n ds ten k p. number-append ds _ (k (omega (arith, ten)))) n h p

decimal-rank : (n : ℕ) → 0 < n → n < 2 ^ 64 → label_rank (decimal n) ≡ length (decimal n)
decimal-rank n p h = ap (λ b. cond b (length (decimal n)) (2 ^ 64 - 1)) (decimal-number n p h)

-- each number is below the next one
label-next : (k : ℕ) → 0 < k → suc k < 2 ^ 64 → label_order (decimal k) (decimal (suc k)) ≡ Less
unfolding IsLower
label-next k p h =
    let r = decimal-rank k p (omega arith) in
    let s = decimal-rank (suc k) (omega arith) h in
    (λ i. ordering_then (nat_cmp (r i) (s i)) (order_of (decimal k) (decimal (suc k)))) ∙ by (decimal-next (suc k) k (omega arith) h)
  where
    by : IsLower (decimal k) (decimal (suc k)) → ordering_then (nat_cmp (length (decimal k)) (length (decimal (suc k)))) (order_of (decimal k) (decimal (suc k))) ≡ Less
    by (inl l) = ap (λ o. ordering_then o (order_of (decimal k) (decimal (suc k)))) (nat-less _ _ l)
    by (inr l) = ap (λ o. ordering_then o (order_of (decimal k) (decimal (suc k)))) (nat-same _ _ l.0) ∙ l.1

pub numbers-rise : (k n : ℕ) → 0 < k → k + n ≤ 2 ^ 64 → AreRising (numbers k n)
unfolding IsStrictlySortedBy
numbers-rise k zero p h = tt
numbers-rise k (suc zero) p h = (tt, tt)
numbers-rise k (suc (suc n)) p h =
    let first = label-next k p (omega arith) in
    let others = numbers-rise (suc k) (suc n) (omega arith) (omega arith) in
    ((first, below-all (decimal k) (decimal (suc k)) (numbers (suc (suc k)) n) first others.0), others)

-- one number more
pub numbers-push : (k n m p : ℕ) → m ≡ k + n → p ≡ suc n → numbers k n ++ (decimal m ∷ []) ≡ numbers k p
numbers-push k zero m p e f = ap (λ j. decimal j ∷ []) (omega (arith, e)) ∙ ap (numbers k) (sym f)
numbers-push k (suc n) m p e f = ap (λ l. decimal k ∷ l) (numbers-push (suc k) n m (suc n) (omega (arith, e)) refl) ∙ ap (numbers k) (sym f)
