-- Sums that stop at a greatest number.
use Rattle.std.proofs.Common.{◌≡◌, ℕ, ◌+◌, ◌*◌, ◌≤◌, min, arith}

module _ (most a b x z : ℕ) where
  pub added-to : x ≡ min a most → z ≡ min (x + b) most → z ≡ min (a + b) most
  added-to h k = omega arith

  pub added : (y : ℕ) → x ≡ min a most → y ≡ min b most → z ≡ min (x + y) most → z ≡ min (a + b) most
  added y h k l = omega arith

-- nine for each of some number and one more
pub nine-times : (most n x z : ℕ) → 9 ≤ most → x ≡ min (n + 1) most → z ≡ min (x * 9) most → z ≡ min (9 + 9 * n) most
nine-times most n x z g h k = omega arith

pub regrouped : (a b c : ℕ) → a + b + c ≡ a + (b + c)
regrouped a b c = omega arith
