-- Places after bytes, and after more of them.
use Rattle.std.proofs.Common.{◌≡◌, ℕ, zero, suc, ◌+◌, ◌-◌, ◌^◌, ◌<◌, ◌≤◌, ◌==◌, List, [], ◌∷◌, ◌++◌, Bool, true, false, cond, not, min, length, length-append, reverse, refl, sym, ap, ◌∙◌, subst, arith, append_assoc, append-nil}
use Rattle.std.specs.List.{count_by, prefix_len, suffix_len}
use Rattle.std.proofs.lemmas.List.{reverse-append}
use Rattle.std.proofs.lemmas.List.Sums.{sum_by-append, sum_by-cons, count_by-le-length, suffix_len-le-length}
use Rattle.sml_reach.specs.Places.{place_after}
use Rattle.sml_shown.specs.Spots.{line_in_file, column_in_file}

abbrev ends : ℕ → Bool
ends b = b == 10

abbrev stays : ℕ → Bool
stays b = not (b == 10)

lines : (xs ys : List ℕ) → count_by ends (xs ++ ys) ≡ count_by ends xs + count_by ends ys
lines xs ys = sum_by-append (λ b. cond (ends b) 1 0) xs ys

one_line : (y : ℕ) (ys : List ℕ) → count_by ends (y ∷ ys) ≡ cond (ends y) 1 0 + count_by ends ys
one_line y ys = sum_by-cons (λ b. cond (ends b) 1 0) y ys

-- the last byte decides
last : (xs : List ℕ) (y : ℕ) → suffix_len stays (xs ++ y ∷ []) ≡ cond (stays y) (1 + suffix_len stays xs) 0
last xs y = ap (prefix_len stays) (reverse-append xs (y ∷ []))

next : (xs ys : List ℕ) (y : ℕ) → suffix_len stays (xs ++ y ∷ ys) ≡ suffix_len stays ((xs ++ y ∷ []) ++ ys)
next xs ys y = ap (suffix_len stays) (sym (append_assoc xs (y ∷ []) ys))

-- more bytes of the same line
none : (xs ys : List ℕ) → count_by ends ys ≡ 0 → suffix_len stays (xs ++ ys) ≡ suffix_len stays xs + length ys
none xs [] e = ap (suffix_len stays) (append-nil xs) ∙ omega arith
none xs (y ∷ ys) e = by (ends y) refl (none (xs ++ y ∷ []) ys)
  where
    by : (b : Bool) → ends y ≡ b → (count_by ends ys ≡ 0 → suffix_len stays ((xs ++ y ∷ []) ++ ys) ≡ suffix_len stays (xs ++ y ∷ []) + length ys) → suffix_len stays (xs ++ y ∷ ys) ≡ suffix_len stays xs + suc (length ys)
    by true h r = let l = sym (one_line y ys) ∙ e in let k = ap (λ b. cond b 1 0 + count_by ends ys) h in absurd (omega (arith, l, k))
    by false h r =
        let l = sym (one_line y ys) ∙ e in
        let k = ap (λ b. cond b 1 0 + count_by ends ys) h in
        let q = r (omega (arith, l, k)) in
        let t = last xs y ∙ ap (λ b. cond (not b) (1 + suffix_len stays xs) 0) h in
        next xs ys y ∙ q ∙ omega (arith, t)

-- bytes of a later line
some : (xs ys : List ℕ) → 0 < count_by ends ys → suffix_len stays (xs ++ ys) ≡ suffix_len stays ys
some xs [] l = absurd (omega (arith, l))
some xs (y ∷ ys) l = by (count_by ends ys) refl (some (xs ++ y ∷ []) ys) (some (y ∷ []) ys)
  where
    at : (b : Bool) → ends y ≡ b → count_by ends ys ≡ 0 → suffix_len stays (xs ++ y ∷ ys) ≡ suffix_len stays (y ∷ ys)
    at true h e =
        let t = last xs y ∙ ap (λ b. cond (not b) (1 + suffix_len stays xs) 0) h in
        let u = last [] y ∙ ap (λ b. cond (not b) (1 + suffix_len stays []) 0) h in
        next xs ys y ∙ none (xs ++ y ∷ []) ys e ∙ ap (λ n. n + length ys) (t ∙ sym u) ∙ sym (none (y ∷ []) ys e)
    at false h e =
        let q = one_line y ys in
        let k = ap (λ b. cond b 1 0 + count_by ends ys) h in
        absurd (omega (arith, l, q, k, e))

    by : (n : ℕ) → count_by ends ys ≡ n → (0 < count_by ends ys → suffix_len stays ((xs ++ y ∷ []) ++ ys) ≡ suffix_len stays ys) → (0 < count_by ends ys → suffix_len stays (y ∷ ys) ≡ suffix_len stays ys) → suffix_len stays (xs ++ y ∷ ys) ≡ suffix_len stays (y ∷ ys)
    by (suc n) e r f = let p : 0 < count_by ends ys = omega (arith, e) in next xs ys y ∙ r p ∙ sym (f p)
    by zero e r f = at (ends y) refl e

all_of : (ys : List ℕ) → count_by ends ys ≡ 0 → suffix_len stays ys ≡ length ys
all_of ys e = none [] ys e ∙ omega arith

-- the line after bytes with so many ends of lines
line_after : (ys : List ℕ) (n : ℕ) → length ys < 4294967295 → count_by ends ys ≡ n → (place_after ys).line ≡ suc n
line_after ys n short e = let b = count_by-le-length ends ys in omega (arith, b, short, e)

-- a place after bytes, moved to a place after others, is that after both
pub moves : (xs ys : List ℕ) → length (xs ++ ys) < 4294967295
    → (line_in_file (place_after xs).line (place_after ys).line ≡ (place_after (xs ++ ys)).line) × (column_in_file (place_after xs).column (place_after ys).line (place_after ys).column ≡ (place_after (xs ++ ys)).column)
moves xs ys short =
    let a = count_by-le-length ends xs in
    let b = count_by-le-length ends ys in
    let s = lines xs ys in
    let n = length-append xs ys in
    (omega (arith, a, b, s, n, short), by (count_by ends ys) refl)
  where
    by : (k : ℕ) → count_by ends ys ≡ k → column_in_file (place_after xs).column (place_after ys).line (place_after ys).column ≡ (place_after (xs ++ ys)).column
    by zero e =
        let n = length-append xs ys in
        let c = suffix_len-le-length stays xs in
        let p = none xs ys e in
        let q = all_of ys e in
        let l : (place_after ys).line ≡ suc zero = line_after ys zero (omega (arith, n, short)) e in
        ap (λ l. column_in_file (place_after xs).column l (place_after ys).column) l
        ∙ omega (arith, n, short, c, p, q)
    by (suc k) e =
        let n = length-append xs ys in
        ap (λ l. column_in_file (place_after xs).column l (place_after ys).column) (line_after ys (suc k) (omega (arith, n, short)) e)
        ∙ ap (λ n. min (n + 1) (2 ^ 32 - 1)) (sym (some xs ys (omega (arith, e))))
