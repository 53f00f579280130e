-- What is found in structures, the last one first.
use Rattle.std.proofs.Common.{◌≡◌, ◌<◌, ◌≤◌, ◌+◌, ◌-◌, ℕ, List, [], ◌∷◌, ◌++◌, drop, take, map, reverse, length, get_or, Option, Some, None, refl, ap, sym, ◌∙◌, Global, arith}
use Rattle.std.proofs.lemmas.List.{drop_all, get_or-map, length-map, length-take, length-take-le, reverse-append, take_more}
use Rattle.std.specs.Option.{option_map}
use Rattle.std.specs.declared.rc.Rc.{Rc}
use Rattle.sml_bases.specs.Layers.{first_found, or_else}
use Rattle.sml_scopes.specs.CodeTables.{found_since}
use Rattle.sml_scopes.proofs.Tables.{drop-more}

pub or-else-assoc : {X : Type 0} (a b c : Option X) → or_else (or_else a b) c ≡ or_else a (or_else b c)
or-else-assoc None b c = refl
or-else-assoc (Some x) b c = refl

pub choose : {X Y : Type 0} (view : X → Y) (a b : Option X) → option_map view (or_else a b) ≡ or_else (option_map view a) (option_map view b)
choose view None b = refl
choose view (Some x) b = refl

module _ {A X : Type 0} (f : A → Option X) where
  pub first-last : (xs : List A) (a : A) → first_found f (reverse (xs ++ a ∷ [])) ≡ or_else (f a) (first_found f (reverse xs))
  first-last xs a = ap (first_found f) (reverse-append xs (a ∷ []))

  -- one structure more
  pub found-more : (xs : List A) (a : A) (e : Option (ℕ × X)) → ((n : ℕ × X) → e ≡ Some n → n.0 ≤ length xs)
      → found_since f (xs ++ a ∷ []) e ≡ or_else (f a) (found_since f xs e)
  found-more xs a None h = first-last xs a
  found-more xs a (Some n) h =
      ap (λ l. or_else (first_found f (reverse l)) (Some n.1)) (drop-more n.0 xs a (h n refl))
      ∙ ap (λ o. or_else o (Some n.1)) (first-last (drop n.0 xs) a)
      ∙ or-else-assoc (f a) (first_found f (reverse (drop n.0 xs))) (Some n.1)

  -- nothing was opened since
  pub found-none : (xs : List A) (n : ℕ × X) → length xs ≤ n.0 → found_since f xs (Some n) ≡ Some n.1
  found-none xs n h = ap (λ l. or_else (first_found f (reverse l)) (Some n.1)) (drop_all n.0 xs h)

  -- a step back through the structures from a place on
  pub found-back : (xs : List A) (first k : ℕ) (a : A) (r : Option X) → first ≤ k → k < length xs → get_or xs k a ≡ a → r ≡ f a
      → first_found f (reverse (drop first (take (k + 1) xs))) ≡ or_else r (first_found f (reverse (drop first (take k xs))))
  found-back xs first k a r from inside here e =
      let n : length (take k xs) ≡ k = length-take-le k xs (omega (arith, inside)) in
      ap (λ l. first_found f (reverse (drop first l))) (take_more xs k a inside)
      ∙ ap (λ l. first_found f (reverse l)) (drop-more first (take k xs) (get_or xs k a) (omega (arith, n, from)))
      ∙ first-last (drop first (take k xs)) (get_or xs k a)
      ∙ (λ i. or_else ((ap f here ∙ sym e) i) (first_found f (reverse (drop first (take k xs)))))

  pub none-left : (xs : List A) (first left : ℕ) → left ≤ first → first_found f (reverse (drop first (take left xs))) ≡ None
  none-left xs first left h =
      ap (λ l. first_found f (reverse l)) (drop_all first (take left xs) (shorter left xs h))
    where
      shorter : (n : ℕ) (ys : List A) → n ≤ first → length (take n ys) ≤ first
      shorter n ys k = let e = length-take n ys in omega (arith, k, e)

-- what was found of structures from a place on, and what is found one place before its end
pub one-back : {B X : Type 0} (f : B → Option X) (shared : List (Rc B Global)) (first left : ℕ) (s : Rc B Global) (v : B) (found whole : Option X)
    → first < left → left ≤ length shared → s ≡ get_or shared (left - 1) s → v ≡ s.value → found ≡ f v
    → whole ≡ first_found f (reverse (drop first (take left (map (λ e. e.value) shared))))
    → whole ≡ or_else found (first_found f (reverse (drop first (take (left - 1) (map (λ e. e.value) shared)))))
one-back f shared first left s v found whole some inside is value here before =
    let k : ℕ = left - 1 in
    let h : k < length shared = omega (arith, some, inside) in
    let e : left ≡ k + 1 = omega (arith, some) in
    let m : length (map (λ e. e.value) shared) ≡ length shared = length-map shared (λ e. e.value) in
    let n : k < length (map (λ e. e.value) shared) = omega (arith, h, m) in
    let at : get_or (map (λ e. e.value) shared) k v ≡ v = get_or-map (λ e. e.value) shared k s v h ∙ (ap (λ u. u.value) (sym is) ∙ sym value) in
    before ∙ (ap (λ m. first_found f (reverse (drop first (take m (map (λ e. e.value) shared))))) e ∙ found-back f (map (λ e. e.value) shared) first k v found (omega (arith, some)) n at here)
