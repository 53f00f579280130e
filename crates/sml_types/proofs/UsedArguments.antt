-- The arguments that a right side uses, as they are read one after the other and put in their places.
use Rattle.std.proofs.Common.{◌≡◌, ◌<◌, ℕ, zero, suc, ◌+◌, Bool, true, false, cond, nat_eq, inl, inr, Option, Some, None, List, [], ◌∷◌, ◌++◌, length, set, slice_get, refl, ap, sym, ◌∙◌, arith, Global}
use Rattle.std.specs.List.{list_any, AllByRecursion}
use Rattle.std.specs.Option.{option_map}
use Rattle.std.specs.Str.{bytes_eq}
use Rattle.std.specs.declared.rc.Rc.{Rc}
use Rattle.std.proofs.lemmas.Bool.{cases_eq}
use Rattle.sml_lex.specs.declared.fault.Place.{Place}
use Rattle.sml_tree.specs.Trees.{Id}
use Rattle.sml_tree.specs.Names.{Name}
use Rattle.sml_objects.specs.Initial as I
use Rattle.sml_objects.specs.Maps.{Map, lookup}
use Rattle.sml_objects.specs.Objects.{MlType, bound}
use Rattle.sml_rules.specs.Answers.{Answer, accepted}
use Rattle.sml_core_rules.specs.Datatypes.{listed}
use Rattle.sml_types.specs.Meant.{meant}
use Rattle.sml_types.specs.Sides.{IsAcceptedAs, bound_number, with_number, numbers_after}
use Rattle.sml_types.specs.declared.written.Written.{Written}
use Rattle.sml_types.proofs.Listing.{by-bytes, get-mapped}
use Rattle.sml_types.proofs.Meanings.{meanings}

-- The places that are used are those of variables, so they are below their number.

module _ (Q : ℕ → Type 0) where
  all-next : (ks : List ℕ) (k : ℕ) → AllByRecursion Q ks → Q k → AllByRecursion Q (ks ++ k ∷ [])
  all-next [] k h q = (q, tt)
  all-next (j ∷ ks) k h q = (h.0, all-next ks k h.1 q)

  all-with : (ks : List ℕ) (n : Option ℕ) → AllByRecursion Q ks → ((k : ℕ) → n ≡ Some k → Q k) → AllByRecursion Q (with_number ks n)
  all-with ks None h q = h
  all-with ks (Some k) h q = go (list_any (nat_eq k) ks)
    where
      go : (b : Bool) → AllByRecursion Q (cond b ks (ks ++ k ∷ []))
      go true = h
      go false = all-next ks k h (q k refl)

  all-numbers : {N : Type 0} (ws : Map (MlType N)) (ks : List ℕ) (xs : List Id) → AllByRecursion Q ks
      → ((x : Id) (k : ℕ) → bound_number (lookup x ws) ≡ Some k → Q k) → AllByRecursion Q (numbers_after ws ks xs)
  unfolding numbers_after
  all-numbers ws ks [] h q = h
  all-numbers ws ks (x ∷ xs) h q =
      all-numbers ws (with_number ks (bound_number (lookup x ws))) xs (all-with ks (bound_number (lookup x ws)) h (q x)) q

listed-below : {P : Type 0} (N : Type 0) (x : Id) (j : ℕ) (xs : List (Name P)) (k : ℕ) → bound_number (lookup x (listed {N = N} bound j xs)) ≡ Some k → k < j + length xs
listed-below N x j [] k e = let f : None ≡ Some k = e in absurd cc
listed-below N x j (n ∷ xs) k e =
    go (bytes_eq x n.id) (sym (ap bound_number (by-bytes x n.id rest (Some (bound j)))) ∙ e) (λ e. let l = listed-below N x (suc j) xs k e in omega (arith, l))
  where
    rest : Option (MlType N)
    rest = lookup x (listed bound (suc j) xs)

    go : (b : Bool) → bound_number (cond b (Some (bound j)) rest) ≡ Some k
        → (bound_number (lookup x (listed {N = N} bound (suc j) xs)) ≡ Some k → k < j + length (n ∷ xs)) → k < j + length (n ∷ xs)
    go true e r = let f : Some j ≡ Some k = e in let same : j ≡ k = cc in omega (arith, same)
    go false e r = r e

pub used-below : {P : Type 0} (N : Type 0) (xs : List (Name P)) (ids : List Id) → AllByRecursion (λ k. k < length xs) (numbers_after (listed {N = N} bound 0 xs) [] ids)
used-below N xs ids =
    all-numbers (λ k. k < length xs) (listed {N = N} bound 0 xs) [] ids tt (λ x k e. let l = listed-below N x 0 xs k e in omega (arith, l))

-- what stands in a list where one element is put

get-put : {A : Type 0} (xs : List A) (k : ℕ) (x : A) → k < length xs → slice_get (set xs k x) k ≡ Some x
get-put [] k x l = absurd (omega (arith, l))
get-put (y ∷ xs) zero x l = refl
get-put (y ∷ xs) (suc k) x l = get-put xs k x (omega (arith, l))

get-beside : {A : Type 0} (xs : List A) (k j : ℕ) (x : A) → ¬ (j ≡ k) → slice_get (set xs k x) j ≡ slice_get xs j
get-beside [] k j x n = refl
get-beside (y ∷ xs) zero zero x n = absurd (n refl)
get-beside (y ∷ xs) zero (suc j) x n = refl
get-beside (y ∷ xs) (suc k) zero x n = refl
get-beside (y ∷ xs) (suc k) (suc j) x n = get-beside xs k j x (λ e. n (ap suc e))

module _ (answers : List (Answer Place (MlType I.Name))) where
  abbrev AreAcceptedAs : List (Rc Written Global) → List ℕ → Type 0
  AreAcceptedAs ws ks = AllByRecursion (IsAcceptedAs answers (meanings ws)) ks

  pub stays-accepted : (ws : List (Rc Written Global)) (k : ℕ) (w : Rc Written Global) → slice_get answers k ≡ Some (accepted (meant w.value)) → k < length ws
      → (j : ℕ) → IsAcceptedAs answers (meanings ws) j → IsAcceptedAs answers (meanings (set ws k w)) j
  stays-accepted ws k w a l j (t, b, at) = elim (cases_eq j k) [
    | inl e ↦ (meant w.value, ap (slice_get answers) e ∙ a, ap (slice_get (meanings (set ws k w))) e ∙ placed)
    | inr n ↦ (t, b, get-mapped (λ w. meant w.value) (set ws k w) j ∙ ap (option_map (λ w. meant w.value)) (get-beside ws k j w n) ∙ sym (get-mapped (λ w. meant w.value) ws j) ∙ at)
  ]
    where
      placed : slice_get (meanings (set ws k w)) k ≡ Some (meant w.value)
      placed = get-mapped (λ w. meant w.value) (set ws k w) k ∙ ap (option_map (λ w. meant w.value)) (get-put ws k w l)

  -- One more argument is read, and put in its place.
  pub accepted-next : (ws : List (Rc Written Global)) (ks : List ℕ) (k : ℕ) (w : Rc Written Global) → AllByRecursion (IsAcceptedAs answers (meanings ws)) ks
      → slice_get answers k ≡ Some (accepted (meant w.value)) → k < length ws → AllByRecursion (IsAcceptedAs answers (meanings (set ws k w))) (ks ++ k ∷ [])
  accepted-next ws ks k w h a l = all-next (IsAcceptedAs answers (meanings (set ws k w))) ks k (all ks h) (meant w.value, a, at)
    where
      at : slice_get (meanings (set ws k w)) k ≡ Some (meant w.value)
      at = get-mapped (λ w. meant w.value) (set ws k w) k ∙ ap (option_map (λ w. meant w.value)) (get-put ws k w l)

      all : (js : List ℕ) → AllByRecursion (IsAcceptedAs answers (meanings ws)) js → AllByRecursion (IsAcceptedAs answers (meanings (set ws k w))) js
      all [] h = tt
      all (j ∷ js) h = (stays-accepted ws k w a l j h.0, all js h.1)
