-- One element more taken off.
use Rattle.std.proofs.Common.{◌≡◌, ℕ, zero, suc, ◌+◌, List, [], ◌∷◌, drop, refl, ap, ◌∙◌, arith}

next : {A : Type 0} (n : ℕ) (xs : List A) → drop 1 (drop n xs) ≡ drop (suc n) xs
next zero xs = refl
next (suc n) [] = refl
next (suc n) (x ∷ xs) = next n xs

pub dropped : {A : Type 0} (n : ℕ) (xs : List A) → drop 1 (drop n xs) ≡ drop (n + 1) xs
dropped n xs = next n xs ∙ ap (λ m. drop m xs) (let e : suc n ≡ n + 1 = omega arith in e)

pub two_off : {A : Type 0} (v a b : List A) → a ≡ drop 1 v → b ≡ drop 1 a → b ≡ drop 2 v
two_off v a b p q = q ∙ ap (drop 1) p ∙ dropped 1 v

pub three_off : {A : Type 0} (v a b d : List A) → a ≡ drop 1 v → b ≡ drop 1 a → d ≡ drop 1 b → d ≡ drop 3 v
three_off v a b d p q r = r ∙ ap (drop 1) (two_off v a b p q) ∙ dropped 2 v

pub four_off : {A : Type 0} (v a b d e : List A) → a ≡ drop 1 v → b ≡ drop 1 a → d ≡ drop 1 b → e ≡ drop 1 d → e ≡ drop 4 v
four_off v a b d e p q r s = s ∙ ap (drop 1) (three_off v a b d p q r) ∙ dropped 3 v

pub next_off : {A : Type 0} (n : ℕ) (v a b : List A) → a ≡ drop n v → b ≡ drop 1 a → b ≡ drop (n + 1) v
next_off n v a b p q = q ∙ ap (drop 1) p ∙ dropped n v
