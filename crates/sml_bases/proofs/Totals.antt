-- Sums over the entries of a map.
use Rattle.std.proofs.Common.{◌≡◌, ℕ, ◌+◌, List, [], ◌∷◌, ◌++◌, map, ap, ◌∙◌, Vec, Global, Bor, arith}
use Rattle.std.proofs.lemmas.List.{map-append}
use Rattle.std.specs.Map.Iter.{deref_pair}
use Rattle.std.specs.declared.rc.Rc.{Rc}
use Rattle.sml_tree.specs.Views.{ident_of}
use Rattle.sml_objects.specs.Maps.{Map}
use Rattle.sml_objects.specs.Views.{entries_of}
use Rattle.sml_bases.specs.Entries.{capped, total}

abbrev Key : Type 0
Key = Rc (Vec ℕ Global) Global

total-append : {X : Type 0} (f : X → ℕ) (xs ys : Map X) → total f (xs ++ ys) ≡ total f xs + total f ys
total-append f [] ys = omega arith
total-append f (e ∷ xs) ys = ap (λ n. f e.1 + n) (total-append f xs ys) ∙ omega arith

module _ {A X : Type 0} (see : A → X) (f : X → ℕ) where
  -- one entry more
  pub total-more : (xs : List (Bor Key × Bor A)) (k : Bor Key) (a : Bor A)
      → total f (entries_of see (map deref_pair (xs ++ ((k, a) ∷ [])))) ≡ total f (entries_of see (map deref_pair xs)) + f (see a.now)
  total-more xs k a =
      ap (λ l. total f (entries_of see l)) (map-append deref_pair xs ((k, a) ∷ []))
      ∙ ap (total f) (map-append (λ (e : Key × A). (ident_of e.0, see e.1)) (map deref_pair xs) ((k.now, a.now) ∷ []))
      ∙ total-append f (entries_of see (map deref_pair xs)) ((ident_of k.now, see a.now) ∷ [])
      ∙ omega arith

-- a sum that was capped once, and again
pub capped-more : (a b : ℕ) → capped (capped a + b) ≡ capped (a + b)
capped-more a b = omega arith
