-- Identifiers with dots between them, one more at the end.
use Rattle.std.proofs.Common.{◌≡◌, ◌<◌, ℕ, List, [], ◌∷◌, ◌++◌, length, ap, sym, ◌∙◌, append_assoc, arith}
use Rattle.sml_tree.specs.Trees.{Id}
use Rattle.sml_rules.specs.Answers.{dotted}

pub dotted-more : (x : Id) (xs : List Id) (y : Id) → dotted ((x ∷ xs) ++ y ∷ []) ≡ dotted (x ∷ xs) ++ (46 ∷ y)
dotted-more x [] y = append_assoc x (46 ∷ []) y
dotted-more x (z ∷ xs) y =
    ap (λ t. (x ++ 46 ∷ []) ++ t) (dotted-more z xs y) ∙ sym (append_assoc (x ++ 46 ∷ []) (dotted (z ∷ xs)) (46 ∷ y))

-- after the first identifier, one after a dot
pub dotted-later : (xs : List Id) (y : Id) (text : List ℕ) → 0 < length xs → text ≡ dotted xs → (text ++ 46 ∷ []) ++ y ≡ dotted (xs ++ y ∷ [])
dotted-later [] y text h e = absurd (omega (arith, h))
dotted-later (x ∷ xs) y text h e = append_assoc text (46 ∷ []) y ∙ ap (λ t. t ++ 46 ∷ y) e ∙ sym (dotted-more x xs y)

pub dotted-first : (xs : List Id) (y : Id) (text : List ℕ) → length xs ≡ 0 → text ≡ dotted xs → text ++ y ≡ dotted (xs ++ y ∷ [])
dotted-first [] y text h e = ap (λ t. t ++ y) e
dotted-first (x ∷ xs) y text h e = absurd (omega (arith, h))
