-- What is read of a list, one item after the other: as many as are accepted, and the first that is refused.
use Rattle.std.proofs.Common.{◌≡◌, List, [], ◌∷◌, ◌++◌, refl, ap, sym, ◌∙◌}
use Rattle.sml_lex.specs.Faults.{Fault}
use Rattle.sml_lex.specs.declared.fault.Place.{Place}
use Rattle.sml_rules.specs.Answers.{Answer, accepted, refused}
use Rattle.sml_core_rules.specs.Answers.{give, ◌>>=◌}

same-list : {B : Type 0} (a : Answer Place (List B)) → a ≡ (a >>= (λ ts. give ts))
unfolding ◌>>=◌
same-list (refused f) = refl
same-list (accepted ts) = refl

both-lists : {T B : Type 0} (g : T → B) (a : Answer Place T) (b c : Answer Place (List B))
    → (a >>= (λ t. (b >>= (λ ts. c >>= (λ us. give (ts ++ us)))) >>= (λ ts. give (g t ∷ ts))))
    ≡ ((a >>= (λ t. b >>= (λ ts. give (g t ∷ ts)))) >>= (λ ts. c >>= (λ us. give (ts ++ us))))
unfolding ◌>>=◌
both-lists g (refused f) b c = refl
both-lists g (accepted t) (refused f) c = refl
both-lists g (accepted t) (accepted ts) (refused f) = refl
both-lists g (accepted t) (accepted ts) (accepted us) = refl

-- how a list is read whose items are read so
module _ {A T B : Type 0} (read : A → Answer Place T) (made : A → T → B) (reads : List A → Answer Place (List B))
    (none : reads [] ≡ accepted []) (more : (x : A) (xs : List A) → reads (x ∷ xs) ≡ (read x >>= (λ t. reads xs >>= (λ ts. give (made x t ∷ ts))))) where
  after : (xs ys : List A) → reads (xs ++ ys) ≡ (reads xs >>= (λ ts. reads ys >>= (λ us. give (ts ++ us))))
  unfolding ◌>>=◌
  after [] ys = same-list (reads ys) ∙ ap (λ a. a >>= (λ ts. reads ys >>= (λ us. give (ts ++ us)))) (sym none)
  after (x ∷ xs) ys =
      more x (xs ++ ys)
      ∙ ap (λ a. read x >>= (λ t. a >>= (λ ts. give (made x t ∷ ts)))) (after xs ys)
      ∙ both-lists (made x) (read x) (reads xs) (reads ys)
      ∙ ap (λ a. a >>= (λ ts. reads ys >>= (λ us. give (ts ++ us)))) (sym (more x xs))

  one : (x : A) (t : T) → read x ≡ accepted t → reads (x ∷ []) ≡ accepted (made x t ∷ [])
  unfolding ◌>>=◌
  one x t r = more x [] ∙ (λ i. r i >>= (λ t. none i >>= (λ ts. give (made x t ∷ ts))))

  first : (x : A) (xs : List A) (f : Fault Place) → read x ≡ refused f → reads (x ∷ xs) ≡ refused f
  unfolding ◌>>=◌
  first x xs f r = more x xs ∙ ap (λ a. a >>= (λ t. reads xs >>= (λ ts. give (made x t ∷ ts)))) r

  -- one item more
  pub read-next : (xs : List A) (x : A) (ts : List B) (t : T) → reads xs ≡ accepted ts → read x ≡ accepted t → reads (xs ++ x ∷ []) ≡ accepted (ts ++ made x t ∷ [])
  unfolding ◌>>=◌
  read-next xs x ts t e r = after xs (x ∷ []) ∙ (λ i. e i >>= (λ ts. one x t r i >>= (λ us. give (ts ++ us))))

  -- the first that is refused
  pub read-stop : (xs ys : List A) (x : A) (ts : List B) (f : Fault Place) → reads xs ≡ accepted ts → read x ≡ refused f → reads (xs ++ x ∷ ys) ≡ refused f
  unfolding ◌>>=◌
  read-stop xs ys x ts f e r = after xs (x ∷ ys) ∙ (λ i. e i >>= (λ ts. first x ys f r i >>= (λ us. give (ts ++ us))))
