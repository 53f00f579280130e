-- Vectors with and without items.
use Rattle.std.proofs.Common.{◌≡◌, List, [], ◌∷◌, length, Vec, Global, vec_len, true, false, eqb, ap, sym, ◌∙◌, arith, refl}
use Rattle.std.proofs.lemmas.Bool.{eqb-true, eqb-false}

nothing : {A : Type 0} (xs : List A) → length xs ≡ 0 → xs ≡ []
nothing [] e = refl
nothing (x ∷ xs) e = absurd (omega (arith, e))

pub empty_items : {A : Type 0} (v : Vec A Global) → true ≡ eqb (vec_len v) 0 → v.items ≡ []
empty_items v h = nothing v.items (sym v.ok.0 ∙ eqb-true _ _ (sym h))

pub some_items : {A : Type 0} (v : Vec A Global) → false ≡ eqb (vec_len v) 0 → ¬ (v.items ≡ [])
some_items v h e = eqb-false _ _ (sym h) (v.ok.0 ∙ ap length e)
