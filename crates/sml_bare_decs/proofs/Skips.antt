-- What is left of a stack after one phrase more.
use Rattle.std.proofs.Common.{◌≡◌, ℕ, ◌+◌, List, drop}
use Rattle.sml_phrases.proofs.Drops.{dropped}

pub skipped : {A : Type 0} (n : ℕ) (xs : List A) → drop 1 (drop n xs) ≡ drop (n + 1) xs
skipped n xs = dropped n xs
