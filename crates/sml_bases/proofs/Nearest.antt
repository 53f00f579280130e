-- What is found first, in a list that is gone through from its end.
use Rattle.std.proofs.Common.{◌≡◌, ◌+◌, ◌-◌, ◌<◌, ◌≤◌, ℕ, List, [], ◌∷◌, ◌++◌, map, reverse, take, length, get_or, Option, Some, None, Global, refl, ap, sym, ◌∙◌, arith}
use Rattle.std.proofs.lemmas.List.{get_or-map, length-map, reverse-append, take_all, take_more}
use Rattle.std.specs.Option.{option_map}
use Rattle.std.specs.Vec.{vec_len}
use Rattle.std.specs.declared.rc.Rc.{Rc}
use Rattle.sml_bases.specs.Layers.{first_found, or_else}
use Rattle.sml_bases.specs.declared.objects.Basis.{Basis}
use Rattle.sml_bases.specs.declared.objects.Basis.TheViews.{out-Basis}

reverse-end : {A : Type 0} (xs : List A) (x : A) → reverse (xs ++ x ∷ []) ≡ x ∷ reverse xs
reverse-end xs x = reverse-append xs (x ∷ [])

module _ {A X : Type 0} (f : A → Option X) where
  pub first-else : (a : A) (xs : List A) (n : ℕ) → None ≡ f a → length xs ≤ n → first_found f (a ∷ reverse xs) ≡ first_found f (reverse (take n xs))
  first-else a xs n e h = ap (λ o. or_else o (first_found f (reverse xs))) (sym e) ∙ ap (λ l. first_found f (reverse l)) (sym (take_all n xs h))

  pub first-next : (xs : List A) (k : ℕ) (a : A) (r : Option X) → k < length xs → get_or xs k a ≡ a → r ≡ f a
      → first_found f (reverse (take (k + 1) xs)) ≡ or_else r (first_found f (reverse (take k xs)))
  first-next xs k a r h here e =
      ap (λ l. first_found f (reverse l)) (take_more xs k a h) ∙ ap (first_found f) (reverse-end (take k xs) (get_or xs k a))
      ∙ (λ i. or_else ((ap f here ∙ sym e) i) (first_found f (reverse (take k xs))))

choose : {X Y : Type 0} (view : X → Y) (a b : Option X) → option_map view (or_else a b) ≡ or_else (option_map view a) (option_map view b)
choose view None b = refl
choose view (Some x) b = refl

-- the same of what is seen of both
pub first-seen : {A B X Y : Type 0} (f : A → Option X) (g : B → Option Y) (view : X → Y) (see : A → B) (xs : List A)
    → ((a : A) → option_map view (f a) ≡ g (see a)) → option_map view (first_found f xs) ≡ first_found g (map see xs)
first-seen f g view see [] same = refl
first-seen f g view see (x ∷ xs) same =
    choose view (f x) (first_found f xs) ∙ (λ i. or_else (same x i) (first-seen f g view see xs same i))

-- the bases below one

abbrev pub shared_below : Basis → List (Rc Basis Global)
shared_below b = (out-Basis b).below.items

abbrev pub below : Basis → List Basis
below b = map (λ u. u.value) (shared_below b)

pub size : (b : Basis) → vec_len (out-Basis b).below ≡ length (shared_below b)
size b = (out-Basis b).below.ok.0

pub count : (b : Basis) → length (below b) ≡ length (shared_below b)
count b = length-map (shared_below b) (λ u. u.value)

-- what was found of those from a place on, and what is found one place before it
pub next-below : {X : Type 0} (f : Basis → Option X) (b : Basis) (left : ℕ) (shared : Rc Basis Global) (v : Basis) (found whole : Option X)
    → 0 < left → left ≤ length (shared_below b) → shared ≡ get_or (shared_below b) (left - 1) shared → v ≡ shared.value → found ≡ f v
    → whole ≡ first_found f (reverse (take left (below b)))
    → whole ≡ or_else found (first_found f (reverse (take (left - 1) (below b))))
next-below f b left shared v found whole some inside is value here before =
    let k : ℕ = left - 1 in
    let h : k < length (shared_below b) = omega (arith, some, inside) in
    let e : left ≡ k + 1 = omega (arith, some) in
    let n : k < length (below b) = let q = count b in omega (arith, h, q) in
    let at : get_or (below b) k v ≡ v = get_or-map (λ u. u.value) (shared_below b) k shared v h ∙ (ap (λ u. u.value) (sym is) ∙ sym value) in
    before ∙ (ap (λ m. first_found f (reverse (take m (below b)))) e ∙ first-next f (below b) k v found n at here)
