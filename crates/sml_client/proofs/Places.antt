-- Where lines begin, and how units add up.
use Rattle.std.proofs.Common.{◌≡◌, ◌++◌, ◌∷◌, ◌+◌, ◌-◌, ◌*◌, ◌<◌, ◌≤◌, inl, inr, ℕ, zero, suc, Bool, true, false, cond, leb, List, [], Some, None, refl, sym, ap, ◌∙◌, subst, append_assoc, append-nil, add-one, length, length-append, get_or, arith}
use Rattle.std.specs.Prelude.{slice_get}
use Rattle.std.specs.List.{All}
use Rattle.std.specs.List.Sorted.{IsPartitionPoint, IsPartitionedBy}
use Rattle.std.proofs.lemmas.Bool.{cases_lt, cases_order, leb-true, leb-false, le-leb}
use Rattle.std.proofs.lemmas.List.{get_or_append_left, get_or-append_right}
use Rattle.std.proofs.lemmas.List.Elements.{All-nil, All-push, All-weaker}
use Rattle.std.proofs.lemmas.List.Sums.{sum_by-cons}
use Rattle.sml_client.specs.declared.positions.Encoding.{Encoding}
use Rattle.sml_client.specs.declared.positions.Encoding.TheVariants.{Utf8, Utf16}
use Rattle.sml_client.specs.Positions.{goes_on, line_begin, line_starts, units, width}

pub starts_yes : (ends : ℕ → Bool) (n : ℕ) → ends n ≡ true → line_starts ends (n + 1) ≡ line_starts ends n ++ ((n + 1) ∷ [])
starts_yes ends n e = ap (line_starts ends) (add-one n) ∙ ap (λ b. cond b (line_starts ends n ++ ((n + 1) ∷ [])) (line_starts ends n)) e

pub starts_no : (ends : ℕ → Bool) (n : ℕ) → ends n ≡ false → line_starts ends (n + 1) ≡ line_starts ends n
starts_no ends n e = ap (line_starts ends) (add-one n) ∙ ap (λ b. cond b (line_starts ends n ++ ((n + 1) ∷ [])) (line_starts ends n)) e

narrow : (e : Encoding) (b : ℕ) → width e b ≤ 2
narrow Utf8 b = omega arith
narrow Utf16 b = elim (goes_on b) as (λ v. cond v 0 (cond (leb 240 b) 2 1) ≤ 2) [
  | true ↦ omega arith
  | false ↦ elim (leb 240 b) as (λ v. cond v 2 1 ≤ 2) [ true ↦ omega arith | false ↦ omega arith ]
]

-- bytes have at most two units each
pub few_units : (e : Encoding) (bytes : List ℕ) → units e bytes ≤ 2 * length bytes
few_units e [] = omega arith
few_units e (b ∷ bytes) = let h = few_units e bytes in let w = narrow e b in let s = sum_by-cons (width e) b bytes in omega (arith, h, w, s)

-- the numbers that are at most one, where they stand before the others
pub in_front : (xs front back : List ℕ) (most : ℕ) → xs ≡ front ++ back → All (λ n. n ≤ most) front → All (λ n. most < n) back → IsPartitionedBy (λ n. leb n most) xs
in_front xs front back most e low high i j d le lt passes =
    elim (cases_lt i (length front)) [
      | inl h ↦ le-leb _ _ (subst (λ x. x ≤ most) (sym (ap (λ l. get_or l i d) e ∙ get_or_append_left front back d i h)) (low i d h))
      | inr h ↦ absurd (
          let k : length front ≤ j = omega arith in
          let size = ap length e ∙ length-append front back in
          let far : most < get_or back (j - length front) d = high (j - length front) d (omega (arith, size)) in
          let same = ap (λ l. get_or l j d) e ∙ get_or-append_right front back (length front) j d refl k in
          let near = leb-true _ _ passes in
          omega (arith, far, same, near))
    ]

pub counted : (xs front back : List ℕ) (most n : ℕ) → xs ≡ front ++ back → All (λ n. n ≤ most) front → All (λ n. most < n) back
    → n ≤ length xs → IsPartitionPoint (λ n. leb n most ≡ true) (λ n. leb n most ≡ false) xs n → n ≡ length front
counted xs front back most n e low high within point =
    elim (cases_order n (length front)) [
      | inl h ↦ h
      | inr h ↦ elim h [
        | inl h ↦ absurd (
            let size = ap length e ∙ length-append front back in
            let near : get_or front n 0 ≤ most = low n 0 h in
            let same = ap (λ l. get_or l n 0) e ∙ get_or_append_left front back 0 n h in
            let far = leb-false _ _ (point.1 n 0 (omega arith) (omega (arith, size))) in
            omega (arith, far, same, near))
        | inr h ↦ absurd (
            let size = ap length e ∙ length-append front back in
            let far : most < get_or back (length front - length front) 0 = high (length front - length front) 0 (omega (arith, size)) in
            let same = ap (λ l. get_or l (length front) 0) e ∙ get_or-append_right front back (length front) (length front) 0 refl (omega arith) in
            let near = leb-true _ _ (point.0 (length front) 0 (omega arith) h) in
            omega (arith, far, same, near))
      ]
    ]

-- the lines that begin after a byte
abbrev pub later : (ℕ → Bool) → ℕ → ℕ → List ℕ
later ends n zero = []
later ends n (suc k) = cond (ends (n + k)) (later ends n k ++ ((n + k + 1) ∷ [])) (later ends n k)

pub parted_at : (ends : ℕ → Bool) (n k : ℕ) → line_starts ends (n + k) ≡ line_starts ends n ++ later ends n k
parted_at ends n zero = ap (line_starts ends) (omega arith) ∙ sym (append-nil (line_starts ends n))
parted_at ends n (suc k) =
    let far : n + suc k ≡ suc (n + k) = omega arith in
    ap (line_starts ends) far
    ∙ elim (ends (n + k)) as (λ v. cond v (line_starts ends (n + k) ++ ((n + k + 1) ∷ [])) (line_starts ends (n + k)) ≡ line_starts ends n ++ cond v (later ends n k ++ ((n + k + 1) ∷ [])) (later ends n k)) [
      | true ↦ ap (λ l. l ++ ((n + k + 1) ∷ [])) (parted_at ends n k) ∙ append_assoc (line_starts ends n) (later ends n k) ((n + k + 1) ∷ [])
      | false ↦ parted_at ends n k
    ]

pub none_after : (ends : ℕ → Bool) (n : ℕ) → All (λ s. s ≤ n) (line_starts ends n)
none_after ends zero = All-nil (λ s. s ≤ 0)
none_after ends (suc n) =
    let before : All (λ s. s ≤ suc n) (line_starts ends n) = All-weaker (λ s. s ≤ n) (λ s. s ≤ suc n) (λ s h. omega arith) (line_starts ends n) (none_after ends n) in
    elim (ends n) as (λ v. All (λ s. s ≤ suc n) (cond v (line_starts ends n ++ ((n + 1) ∷ [])) (line_starts ends n))) [
      | true ↦ All-push (λ s. s ≤ suc n) (line_starts ends n) (n + 1) before (omega arith)
      | false ↦ before
    ]

pub all_later : (ends : ℕ → Bool) (n k : ℕ) → All (λ s. n < s) (later ends n k)
all_later ends n zero = All-nil (λ s. n < s)
all_later ends n (suc k) =
    elim (ends (n + k)) as (λ v. All (λ s. n < s) (cond v (later ends n k ++ ((n + k + 1) ∷ [])) (later ends n k))) [
      | true ↦ All-push (λ s. n < s) (later ends n k) (n + k + 1) (all_later ends n k) (omega arith)
      | false ↦ all_later ends n k
    ]

pub begun_before : (ends : ℕ → Bool) (n : ℕ) → line_begin ends n ≤ n
begun_before ends zero = omega arith
begun_before ends (suc n) =
    let h = begun_before ends n in
    elim (ends n) as (λ v. cond v (n + 1) (line_begin ends n) ≤ suc n) [ true ↦ omega arith | false ↦ omega (arith, h) ]

get_last : (x y : ℕ) (xs ys : List ℕ) → slice_get (x ∷ ((xs ++ (y ∷ [])) ++ ys)) (length (xs ++ (y ∷ []))) ≡ Some y
get_last x y [] ys = refl
get_last x y (z ∷ xs) ys = get_last z y xs ys

-- the last line that begins up to a byte begins where that byte's line does
pub last_begun : (ends : ℕ → Bool) (n : ℕ) (ys : List ℕ) → slice_get (0 ∷ (line_starts ends n ++ ys)) (length (line_starts ends n)) ≡ Some (line_begin ends n)
last_begun ends zero ys = refl
last_begun ends (suc n) ys =
    elim (ends n) as (λ v. slice_get (0 ∷ (cond v (line_starts ends n ++ ((n + 1) ∷ [])) (line_starts ends n) ++ ys)) (length (cond v (line_starts ends n ++ ((n + 1) ∷ [])) (line_starts ends n))) ≡ Some (cond v (n + 1) (line_begin ends n))) [
      | true ↦ get_last 0 (n + 1) (line_starts ends n) ys
      | false ↦ last_begun ends n ys
    ]

got_within : (most d : ℕ) (xs : List ℕ) (i n : ℕ) → All (λ s. s ≤ most) xs → slice_get xs i ≡ Some n → n ≤ most
got_within most d [] i n all e = let f : None ≡ Some n = e in absurd (cc)
got_within most d (x ∷ xs) zero n all e = let f : Some x ≡ Some n = e in let g : x ≡ n = cc in let h : x ≤ most = all 0 d (omega arith) in omega (arith, g, h)
got_within most d (x ∷ xs) (suc i) n all e = got_within most d xs i n (λ k d' lt. all (suc k) d' (omega arith)) e
