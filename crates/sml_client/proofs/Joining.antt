-- How paths are joined from parts.
use Rattle.std.proofs.Common.{◌≡◌, ◌++◌, ◌∷◌, ◌+◌, ◌<◌, ℕ, zero, suc, Bool, true, false, cond, nat_eq, List, [], map, length, get_or, take, refl, sym, ap, ◌∙◌, append_assoc, arith}
use Rattle.std.specs.List.{join_with_byte}
use Rattle.std.proofs.lemmas.Bool.{ne_eqb}
use Rattle.std.proofs.lemmas.List.{map_more}

abbrev is_none : List (List ℕ) → Bool
is_none [] = true
is_none (x ∷ xs) = false

join_push : (xs : List (List ℕ)) (y : List ℕ) → join_with_byte 47 (xs ++ (y ∷ [])) ≡ join_with_byte 47 xs ++ cond (is_none xs) y (47 ∷ y)
join_push [] y = refl
join_push (x ∷ []) y = refl
join_push (x ∷ z ∷ zs) y = ap (λ l. x ++ (47 ∷ l)) (join_push (z ∷ zs) y) ∙ sym (append_assoc x (47 ∷ join_with_byte 47 (z ∷ zs)) (47 ∷ y))

none_taken : {A : Type 0} (f : A → List ℕ) (xs : List A) (i : ℕ) → i < length xs → is_none (map f (take i xs)) ≡ nat_eq i 0
none_taken f [] i h = absurd (omega arith)
none_taken f (x ∷ xs) zero h = refl
none_taken f (x ∷ xs) (suc i) h = sym (ne_eqb (suc i) 0 (λ e. omega arith))

-- one more part
pub join_next : {A : Type 0} (f : A → List ℕ) (xs : List A) (i : ℕ) (d : A) → i < length xs
    → join_with_byte 47 (map f (take (i + 1) xs)) ≡ join_with_byte 47 (map f (take i xs)) ++ cond (nat_eq i 0) (f (get_or xs i d)) (47 ∷ f (get_or xs i d))
join_next f xs i d h =
    ap (join_with_byte 47) (map_more f xs i d h) ∙ join_push (map f (take i xs)) (f (get_or xs i d))
    ∙ ap (λ b. join_with_byte 47 (map f (take i xs)) ++ cond b (f (get_or xs i d)) (47 ∷ f (get_or xs i d))) (none_taken f xs i h)
