-- A step over a list up to its first element of a kind.
use Rattle.std.proofs.Common.{◌≡◌, ℕ, ◌+◌, ◌<◌, List, [], ◌∷◌, ◌++◌, Bool, take, drop, length, get_or, false, sym, ap, ◌∙◌, append_assoc}
use Rattle.std.specs.Prelude.{not}
use Rattle.std.specs.List.{before_first}
use Rattle.std.proofs.lemmas.List.{drop_more, take_more}
use Rattle.std.proofs.lemmas.List.Sums.{take_while-cons}
use Rattle.std.proofs.lemmas.Bool.{cond-true}

pub first_on : {A : Type 0} (stops : A → Bool) (items : List A) (n : ℕ) (d : A) → n < length items → stops (get_or items n d) ≡ false → take n items ++ before_first stops (drop n items) ≡ take (n + 1) items ++ before_first stops (drop (n + 1) items)
first_on stops items n d within e =
    ap (λ xs. take n items ++ before_first stops xs) (drop_more items n d within)
    ∙ ap (λ xs. take n items ++ xs) (take_while-cons (λ x. not (stops x)) (get_or items n d) (drop (n + 1) items) ∙ cond-true _ _ _ (ap not e))
    ∙ sym (append_assoc (take n items) (get_or items n d ∷ []) (before_first stops (drop (n + 1) items)))
    ∙ ap (λ xs. xs ++ before_first stops (drop (n + 1) items)) (sym (take_more items n d within))
