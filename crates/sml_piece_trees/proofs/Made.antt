-- Lists that are made one item after another, of which each has to be there.
use Rattle.std.proofs.Common.{◌≡◌, ℕ, zero, suc, ◌+◌, ◌<◌, ◌≤◌, List, [], ◌∷◌, ◌++◌, length, drop, get_or, Option, Some, None, arith, refl, sym, ap, ◌∙◌}
use Rattle.std.specs.Option.{option_map}
use Rattle.sml_tree.specs.Trees as T
use Rattle.sml_tree.specs.Views.{exps_of, tys_of}
use Rattle.sml_lex.specs.declared.fault.Place.{Place}
use Rattle.sml_tree.proofs.Lists.{opened}
use Rattle.sml_piece_trees.specs.Piece.{both}

-- items before others
abbrev pub front : {A L : Type 0} → (A → L → L) → List A → L → L
front add [] rest = rest
front add (x ∷ xs) rest = add x (front add xs rest)

pub begun : {A L : Type 0} (add : A → L → L) (rest : Option L) → rest ≡ option_map (front add []) rest
begun add None = refl
begun add (Some r) = refl

front-more : {A L : Type 0} (add : A → L → L) (xs : List A) (x : A) (rest : L) → front add xs (add x rest) ≡ front add (xs ++ x ∷ []) rest
front-more add [] x rest = refl
front-more add (y ∷ xs) x rest = ap (add y) (front-more add xs x rest)

pub one_more : {A L : Type 0} (add : A → L → L) (xs : List A) (x : A) (rest : Option L) → option_map (front add xs) (both add (Some x) rest) ≡ option_map (front add (xs ++ x ∷ [])) rest
one_more add xs x None = refl
one_more add xs x (Some r) = ap Some (front-more add xs x r)

pub all_exps : (es : List (T.Exp Place)) → front T.and_exp es T.no_exp ≡ exps_of es
all_exps [] = refl
all_exps (e ∷ es) = ap (T.and_exp e) (all_exps es)

pub all_tys : (ts : List (T.Ty Place)) → front T.and_ty ts T.no_ty ≡ tys_of ts
all_tys [] = refl
all_tys (t ∷ ts) = ap (T.and_ty t) (all_tys ts)

pub all_items : {A : Type 0} (xs : List A) → front ◌∷◌ xs [] ≡ xs
all_items [] = refl
all_items (x ∷ xs) = ap (◌∷◌ x) (all_items xs)

-- step by step

none_left : {X : Type 0} (xs : List X) (i : ℕ) → length xs ≤ i → drop i xs ≡ []
none_left [] zero h = refl
none_left [] (suc i) h = refl
none_left (x ∷ xs) zero h = absurd (omega (arith, h))
none_left (x ∷ xs) (suc i) h = none_left xs i (omega (arith, h))

module _ {X A L : Type 0} (add : A → L → L) (whole : List X → Option L) (one : X → Option A) (step : (x : X) (xs : List X) → whole (x ∷ xs) ≡ both add (one x) (whole xs)) where
  pub goes_on : (xs : List X) (i : ℕ) (x : X) (made more : List A) (a : A) → i < length xs → x ≡ get_or xs i x → Some a ≡ one x → more ≡ made ++ a ∷ []
      → whole xs ≡ option_map (front add made) (whole (drop i xs)) → whole xs ≡ option_map (front add more) (whole (drop (i + 1) xs))
  goes_on xs i x made more a h e k n inv =
      inv
      ∙ ap (λ ys. option_map (front add made) (whole ys)) (opened xs i x h e)
      ∙ ap (option_map (front add made)) (step x (drop (i + 1) xs) ∙ ap (λ o. both add o (whole (drop (i + 1) xs))) (sym k))
      ∙ one_more add made a (whole (drop (i + 1) xs))
      ∙ ap (λ ms. option_map (front add ms) (whole (drop (i + 1) xs))) (sym n)

  pub ends : (xs : List X) (i : ℕ) (made : List A) (none : L) → length xs ≤ i → whole [] ≡ Some none → whole xs ≡ option_map (front add made) (whole (drop i xs)) → Some (front add made none) ≡ whole xs
  ends xs i made none h e inv = sym (inv ∙ ap (λ ys. option_map (front add made) (whole ys)) (none_left xs i h) ∙ ap (option_map (front add made)) e)
