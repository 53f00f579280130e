-- The first items of a list, and one more.
use Rattle.std.proofs.Common.{◌≡◌, ◌<◌, ◌+◌, ℕ, List, [], ◌∷◌, ◌++◌, length, take, get_or, ap, sym, ◌∙◌}
use Rattle.std.proofs.lemmas.List.{take_more}

pub taken-next : {X : Type 0} (xs : List X) (k : ℕ) (x y : X) → k < length xs → x ≡ get_or xs k y → take (k + 1) xs ≡ take k xs ++ (x ∷ [])
taken-next xs k x y l at = take_more xs k y l ∙ ap (λ y. take k xs ++ (y ∷ [])) (sym at)
