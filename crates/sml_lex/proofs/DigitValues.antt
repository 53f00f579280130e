-- Digits one after another.
use Rattle.std.proofs.Common.{◌≡◌, ℕ, ◌+◌, ◌*◌, ◌^◌, ◌<◌, ◌≤◌, drop, length, get_or, List, [], ◌∷◌, sym, ap, ◌∙◌, arith}
use Rattle.std.proofs.Math.Nat.{pow-zero, pow-suc, one-le-pow, mul_assoc, mul_comm, add-mul, mul-le-mul_left}
use Rattle.std.proofs.lemmas.List.{drop_more}
use Rattle.sml_lex.specs.Numbers.{digit_value, number}

-- the number, of which the value of the first digits is known
pub number_after : ℕ → ℕ → List ℕ → ℕ
number_after base value rest = value * base ^ length rest + number base rest

pub after_none : (base : ℕ) (digits : List ℕ) → number base digits ≡ number_after base 0 digits
unfolding number_after
after_none base digits = omega arith

pub after_one : (base value c : ℕ) (rest : List ℕ) → number_after base value (c ∷ rest) ≡ number_after base (value * base + digit_value c) rest
unfolding number_after
after_one base value c rest =
    let p : ℕ = base ^ length rest in
    let power : base ^ length (c ∷ rest) ≡ p * base = pow-suc base (length rest) in
    let shift : value * (p * base) ≡ value * base * p = ap (λ n. value * n) (mul_comm p base) ∙ sym (mul_assoc value base p) in
    let split : (value * base + digit_value c) * p ≡ value * base * p + digit_value c * p = add-mul (value * base) (digit_value c) p in
    let first : value * base ^ length (c ∷ rest) ≡ value * base * p = ap (λ n. value * n) power ∙ shift in
    omega (arith, first, split)

pub after_all : (base value : ℕ) (rest : List ℕ) → length rest ≡ 0 → number_after base value rest ≡ value
unfolding number_after
after_all base value [] l =
    let one : value * base ^ length (let none : List ℕ = [] in none) ≡ value * 1 = ap (λ p. value * p) (pow-zero base) in
    omega (arith, one)
after_all base value (c ∷ rest) l = absurd (omega (arith, l))

-- a number is at least what its first digits are worth
pub after_more : (base value : ℕ) (rest : List ℕ) → 0 < base → value ≤ number_after base value rest
unfolding number_after
after_more base value rest some =
    let p : ℕ = base ^ length rest in
    let one : 1 ≤ p = one-le-pow (length rest) base some in
    let more : value * 1 ≤ value * p = mul-le-mul_left value one in
    omega (arith, more)

pub after_at : (base value d : ℕ) (digits : List ℕ) (i : ℕ) → i < length digits → number_after base value (drop i digits) ≡ number_after base (value * base + digit_value (get_or digits i d)) (drop (i + 1) digits)
after_at base value d digits i within = ap (number_after base value) (drop_more digits i d within) ∙ after_one base value (get_or digits i d) (drop (i + 1) digits)
