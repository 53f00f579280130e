-- Maps in which something holds of a thing.
use Rattle.std.proofs.Common.{◌≡◌, ℕ, Bool, true, false, ◌||◌, List, [], ◌∷◌, ◌++◌, map, refl, ap, ◌∙◌, sym, Option, Some, Vec, Global, Bor}
use Rattle.std.proofs.lemmas.List.{map-append}
use Rattle.std.proofs.lemmas.Map.Iter.{rest_so_far, rest_more}
use Rattle.std.specs.Iterator.{Yields}
use Rattle.std.specs.Map.Iter.{deref_pair, TakesFirst}
use Rattle.std.specs.declared.rc.Rc.{Rc}
use Rattle.sml_tree.specs.Views.{ident_of}
use Rattle.sml_objects.specs.Maps.{Map}
use Rattle.sml_objects.specs.Views.{entries_of}
use Rattle.sml_bases.specs.Entries.{some_entry}

or-true : (b : Bool) → (b || true) ≡ true
or-true true = refl
or-true false = refl

or-assoc : (b c d : Bool) → (b || (c || d)) ≡ ((b || c) || d)
or-assoc true c d = refl
or-assoc false c d = refl

pub or-left : (b c : Bool) → b ≡ true → (b || c) ≡ true
or-left b c h = ap (λ b. b || c) h

pub or-right : (b c : Bool) → c ≡ true → (b || c) ≡ true
or-right b c h = ap (λ c. b || c) h ∙ or-true b

pub or-none : (b c : Bool) → b ≡ false → c ≡ false → (b || c) ≡ false
or-none b c h k = λ i. h i || k i

some-append : {X : Type 0} (p : X → Bool) (xs ys : Map X) → some_entry p (xs ++ ys) ≡ (some_entry p xs || some_entry p ys)
some-append p [] ys = refl
some-append p (e ∷ xs) ys = ap (λ c. p e.1 || c) (some-append p xs ys) ∙ or-assoc (p e.1) (some_entry p xs) (some_entry p ys)

abbrev Key : Type 0
Key = Rc (Vec ℕ Global) Global

module _ {A X : Type 0} (see : A → X) (p : X → Bool) where
  some-parts : (xs ys : List (Key × A)) → some_entry p (entries_of see (xs ++ ys)) ≡ (some_entry p (entries_of see xs) || some_entry p (entries_of see ys))
  some-parts xs ys =
      ap (some_entry p) (map-append (λ (e : Key × A). (ident_of e.0, see e.1)) xs ys)
      ∙ some-append p (entries_of see xs) (entries_of see ys)

  -- one more of which it doesn't hold
  pub none-more : (xs : List (Bor Key × Bor A)) (k : Bor Key) (a : Bor A) → some_entry p (entries_of see (map deref_pair xs)) ≡ false
      → p (see a.now) ≡ false → some_entry p (entries_of see (map deref_pair (xs ++ ((k, a) ∷ [])))) ≡ false
  none-more xs k a h here =
      ap (λ l. some_entry p (entries_of see l)) (map-append deref_pair xs ((k, a) ∷ []))
      ∙ some-parts (map deref_pair xs) ((k.now, a.now) ∷ [])
      ∙ or-none _ _ h (or-none _ _ here refl)

  -- one of them of which it does
  pub found : (all s t u : List (Key × A)) (xs : List (Bor Key × Bor A)) (r : Option (Bor Key × Bor A)) (x : Bor Key × Bor A) → s ≡ all
      → Yields (TakesFirst deref_pair) s xs t → r ≡ Some x → TakesFirst deref_pair t r u → p (see x.1.now) ≡ true
      → some_entry p (entries_of see all) ≡ true
  found all s t u xs r x start y is step here =
      let rest : all ≡ map deref_pair xs ++ (deref_pair x ∷ u) =
      sym start ∙ rest_so_far deref_pair xs s t y ∙ ap (λ l. map deref_pair xs ++ l) (rest_more deref_pair t u r x is step) in
      ap (λ l. some_entry p (entries_of see l)) rest
      ∙ some-parts (map deref_pair xs) (deref_pair x ∷ u)
      ∙ or-right _ _ (or-left _ _ here)
