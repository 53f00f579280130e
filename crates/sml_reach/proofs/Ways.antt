-- The bytes on the way from one byte of a unit to another.
use Rattle.std.proofs.Common.{◌≡◌, ℕ, ◌+◌, ◌-◌, ◌≤◌, List, ◌++◌, take, drop, ap, ◌∙◌, arith}
use Rattle.std.specs.Prelude.{slice_range}
use Rattle.std.proofs.lemmas.List.{drop-drop}
use Rattle.std.proofs.Math.Seq.{take-add}

-- the way to a byte, and on to a later one
pub slice_range-on : (unit : List ℕ) (start at to : ℕ) → start ≤ at → at ≤ to → slice_range unit start to ≡ slice_range unit start at ++ slice_range unit at to
slice_range-on unit start at to h g =
    ap (λ n. take n (drop start unit)) (let e : to - start ≡ (at - start) + (to - at) = omega arith in e)
    ∙ take-add (at - start) (to - at) (drop start unit)
    ∙ ap (λ xs. take (at - start) (drop start unit) ++ take (to - at) xs) (drop-drop (at - start) start unit ∙ ap (λ n. drop n unit) (let e : start + (at - start) ≡ at = omega arith in e))
