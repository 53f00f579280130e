-- Canonical names are a renaming, and the same for objects that are alike.
use Rattle.std.proofs.Common.{◌≡◌, ◌≤◌, ◌<◌, ◌⊎◌, ℕ, suc, ◌+◌, Bool, true, false, cond, not, ◌&&◌, nat_eq, nat_lt, List, [], ◌∷◌, map, filter, length, add-one, refl, ap, sym, subst, ◌∙◌, arith, inl, inr}
use Rattle.std.proofs.lemmas.Bool.{eqb-true, eq-eqb, le-ltb}
use Rattle.std.specs.List.{range_with_len}
use Rattle.sml_objects.specs.Names as N
use Rattle.sml_objects.specs.Objects.{Sig, Basis, names_sig, names_basis, rename_sig}
use Rattle.sml_objects.specs.Alike.{Renaming, IsFixed, AlikeOver}
use Rattle.sml_objects.specs.Initial.{Name, initial, made, naming, attributes_of}
use Rattle.sml_objects.specs.Appearance.{Stands, stands, firsts_after, appear_sig}
use Rattle.sml_objects.specs.Canonical.{is_new, new_names, index_of, with_number, renumber, canonical, number_of}
use Rattle.sml_objects.specs.CanonicalLaws.{CanonicalRenames, CanonicalIsOne, CanonicalNumbers, IsOver}
use Rattle.sml_objects.proofs.Exchanges.{one_to_one, Apart, ArePairs, TakesAll, IsAway, built}
use Rattle.sml_objects.proofs.NameTests.{both}
use Rattle.sml_objects.proofs.Renaming.{sig-both, sig-image}
use Rattle.sml_objects.proofs.Standing.{image, kept, was_kept, NoRepeats, repeats-filter, found, was_found, stands-or-not, firsts-all, firsts-only, repeats-firsts, stands-map, place-map, firsts-map, filter-map}
use Rattle.sml_objects.proofs.StandingObjects.{sig-appears, sig-stands, sig-agree, sig-appear-image}

fixed-at : (f : Name → Name) (n : Name) (ns : List Name) → IsFixed f ns → Stands n ns → f n ≡ n
unfolding IsFixed Stands
fixed-at f n [] h s = absurd s
fixed-at f n (m ∷ ns) h (inl e) = ap f e ∙ h.0 ∙ sym e
fixed-at f n (m ∷ ns) h (inr s) = fixed-at f n ns h.1 s

fixed-each : (f : Name → Name) (ns : List Name) → ((n : Name) → Stands n ns → f n ≡ n) → IsFixed f ns
unfolding IsFixed Stands
fixed-each f [] h = tt
fixed-each f (n ∷ ns) h = (h n (inl refl), fixed-each f ns (λ m s. h m (inr s)))

module _ (unit count : ℕ) where
  -- the new names are those of the object

  in-new : (S : Sig Name) (n : Name) → Stands n (names_sig S) → is_new unit count n ≡ true → Stands n (new_names unit count S)
  unfolding new_names
  in-new S n h k = kept (is_new unit count) n (firsts_after naming [] (appear_sig S)) (firsts-all naming n [] (appear_sig S) (sig-appears n S h)) k

  appeared : (S : Sig Name) (n : Name) → Stands n (firsts_after naming [] (appear_sig S)) → Stands n (names_sig S)
  unfolding Stands
  appeared S n h = go (firsts-only naming n [] (appear_sig S) h)
    where
      go : Stands n [] ⊎ Stands n (appear_sig S) → Stands n (names_sig S)
      go (inl s) = absurd s
      go (inr s) = sig-stands n S s

  -- and these are of the object

  pub new-in : (S : Sig Name) (n : Name) → Stands n (new_names unit count S) → Stands n (names_sig S)
  unfolding new_names
  new-in S n h = appeared S n (was_kept (is_new unit count) n (firsts_after naming [] (appear_sig S)) h).0

  pub new-is : (S : Sig Name) (n : Name) → Stands n (new_names unit count S) → is_new unit count n ≡ true
  unfolding new_names
  new-is S n h = (was_kept (is_new unit count) n (firsts_after naming [] (appear_sig S)) h).1

  pub no-repeats : (S : Sig Name) → NoRepeats (new_names unit count S)
  unfolding new_names NoRepeats
  no-repeats S = repeats-filter (is_new unit count) (firsts_after naming [] (appear_sig S)) (repeats-firsts naming [] (appear_sig S) tt)

  -- a name of the object that is not among the new ones is old
  not-new : (S : Sig Name) (n : Name) → Stands n (names_sig S) → stands naming n (new_names unit count S) ≡ false → is_new unit count n ≡ false
  not-new S n h e = go (is_new unit count n) refl
    where
      go : (b : Bool) → is_new unit count n ≡ b → is_new unit count n ≡ false
      go true k = let s : stands naming n (new_names unit count S) ≡ true = found naming n (new_names unit count S) (in-new S n h k) in cc
      go false k = k

  kept-place : (ns : List Name) (n : Name) → stands naming n ns ≡ true → renumber unit count ns n ≡ with_number unit (count + index_of naming n ns) n
  unfolding renumber
  kept-place ns n e = ap (λ b. cond b (with_number unit (count + index_of naming n ns) n) n) e

  kept-name : (ns : List Name) (n : Name) → stands naming n ns ≡ false → renumber unit count ns n ≡ n
  unfolding renumber
  kept-name ns n e = ap (λ b. cond b (with_number unit (count + index_of naming n ns) n) n) e

  -- a one-to-one map that keeps the age of each name moves the new names
  moved-names : (f : Name → Name) → ((m n : Name) → f m ≡ f n → m ≡ n) → (R : Sig Name)
      → ((n : Name) → Stands n (names_sig R) → is_new unit count (f n) ≡ is_new unit count n)
      → new_names unit count (rename_sig f R) ≡ map f (new_names unit count R)
  unfolding new_names
  moved-names f one R age =
      ap (λ ns. filter (is_new unit count) (firsts_after naming [] ns)) (sig-appear-image f R)
      ∙ ap (filter (is_new unit count)) (firsts-map naming f one [] (appear_sig R))
      ∙ filter-map (is_new unit count) f (firsts_after naming [] (appear_sig R)) (λ n s. age n (appeared R n s))

  -- two objects that are alike

  module _ (B : Basis Name) (R S : Sig Name) (over : IsOver unit count B R) (over' : IsOver unit count B S)
      (f : Renaming naming) (fixed : IsFixed f.to (names_basis B)) (e : rename_sig f.to R ≡ S) where
    one : (m n : Name) → f.to m ≡ f.to n → m ≡ n
    one m n h = one_to_one naming f m n h

    stays : (n : Name) → Stands n (names_sig R) → is_new unit count n ≡ false → f.to n ≡ n
    stays n h k = fixed-at f.to n (names_basis B) fixed (over n h k)

    same-age : (n : Name) → Stands n (names_sig R) → is_new unit count (f.to n) ≡ is_new unit count n
    same-age n h = go (is_new unit count n) refl (is_new unit count (f.to n)) refl
      where
        moved : Stands (f.to n) (names_sig S)
        moved = subst (λ ns. Stands (f.to n) ns) (sym (sig-image f.to R) ∙ ap names_sig e) (image f.to n (names_sig R) h)

        go : (b : Bool) → is_new unit count n ≡ b → (d : Bool) → is_new unit count (f.to n) ≡ d → is_new unit count (f.to n) ≡ is_new unit count n
        go false k d l = ap (is_new unit count) (stays n h k)
        go true k true l = l ∙ sym k
        go true k false l = ap (is_new unit count) (one (f.to n) n (fixed-at f.to (f.to n) (names_basis B) fixed (over' (f.to n) moved l)))

    new-moved : new_names unit count S ≡ map f.to (new_names unit count R)
    new-moved = ap (new_names unit count) (sym e) ∙ moved-names f.to one R same-age

    number-kept : (k : ℕ) (n : Name) → with_number unit k (f.to n) ≡ with_number unit k n
    unfolding naming
    number-kept k n = λ i. made unit k (sym (f.keeps n) i).arity (sym (f.keeps n) i).equality

    renumbered-alike : (n : Name) → Stands n (names_sig R)
        → renumber unit count (map f.to (new_names unit count R)) (f.to n) ≡ renumber unit count (new_names unit count R) n
    renumbered-alike n h = go (stands-or-not naming n ns)
      where
        ns : List Name
        ns = new_names unit count R

        go : (stands naming n ns ≡ true) ⊎ (stands naming n ns ≡ false) → renumber unit count (map f.to ns) (f.to n) ≡ renumber unit count ns n
        go (inl s) =
            kept-place (map f.to ns) (f.to n) (stands-map naming f.to one n ns ∙ s)
            ∙ ap (λ k. with_number unit (count + k) (f.to n)) (place-map naming f.to one n ns)
            ∙ number-kept (count + index_of naming n ns) n
            ∙ sym (kept-place ns n s)
        go (inr s) =
            kept-name (map f.to ns) (f.to n) (stands-map naming f.to one n ns ∙ s)
            ∙ stays n h (not-new R n h s)
            ∙ sym (kept-name ns n s)

    forms-equal : canonical unit count R ≡ canonical unit count S
    unfolding canonical
    forms-equal =
        sym (sig-agree (λ n. renumber unit count (map f.to (new_names unit count R)) (f.to n)) (renumber unit count (new_names unit count R)) R renumbered-alike)
        ∙ sym (sig-both f.to (renumber unit count (map f.to (new_names unit count R))) R)
        ∙ (λ i. rename_sig (renumber unit count (sym new-moved i)) (e i))

  -- the canonical form as a renaming

  numbered : ℕ → List Name → List (Name × Name)
  numbered k [] = []
  numbered k (n ∷ ns) = (n, with_number unit k n) ∷ numbered (suc k) ns

  AreNew : List Name → Type 0
  AreNew ns = (n : Name) → Stands n ns → is_new unit count n ≡ true

  apart-numbered : (k j : ℕ) (n : Name) (ns : List Name) → k < j → ¬ (Stands n ns) → Apart naming (n, with_number unit k n) (numbered j ns)
  unfolding Apart numbered Stands
  apart-numbered k j n [] h s = tt
  apart-numbered k j n (m ∷ ns) h s = (λ d. s (inl d), λ d. differ d, apart-numbered k (suc j) n ns (omega (arith, h)) (λ t. s (inr t)))
    where
      differ : with_number unit k n ≡ with_number unit j m → ⊥
      differ d = let e : k ≡ j = cc in omega (arith, e, h)

  new-attributes : (k : ℕ) (n : Name) → is_new unit count n ≡ true → attributes_of n ≡ attributes_of (with_number unit k n)
  new-attributes k (initial j) h = cc
  new-attributes k (made u m a q) h = λ i. record { maker = eqb-true u unit (both (nat_eq u unit) (not (nat_lt m count)) h).0 i; arity = a; equality = q; constructors = [] }

  new-number : (k : ℕ) (n : Name) → count ≤ k → is_new unit count (with_number unit k n) ≡ true
  new-number k n h = λ i. eq-eqb unit unit refl i && not (le-ltb k count h i)

  not-initial : (n : Name) → is_new unit count n ≡ true → (j : N.Initial) → ¬ (initial j ≡ n)
  not-initial n h j d = let g : false ≡ is_new unit count n = ap (is_new unit count) d in cc

  are-pairs : (k : ℕ) (ns : List Name) → count ≤ k → NoRepeats ns → AreNew ns → ArePairs naming (numbered k ns)
  unfolding ArePairs numbered NoRepeats AreNew Stands naming
  are-pairs k [] c r w = tt
  are-pairs k (n ∷ ns) c r w = (
    apart-numbered k (suc k) n ns (omega arith) r.0,
    new-attributes k n (w n (inl refl)),
    not-initial n (w n (inl refl)),
    not-initial (with_number unit k n) (new-number k n c),
    are-pairs (suc k) ns (omega (arith, c)) r.1 (λ m s. w m (inr s)),
  )

  taken : (f : Name → Name) (k : ℕ) (n : Name) (ns : List Name) → TakesAll naming f (numbered k ns) → Stands n ns
      → f n ≡ with_number unit (k + index_of naming n ns) n
  unfolding TakesAll numbered Stands index_of
  taken f k n [] t s = absurd s
  taken f k n (m ∷ ns) t s = go (naming.same n m) s (taken f (suc k) n ns t.1)
    where
      go : (d : Dec (n ≡ m)) → (n ≡ m) ⊎ Stands n ns → (Stands n ns → f n ≡ with_number unit (suc k + index_of naming n ns) n)
          → f n ≡ with_number unit (k + (elim d [ yes _ ↦ 0 | no _ ↦ suc (index_of naming n ns) ])) n
      go (yes d) s' next = ap f d ∙ t.0 ∙ (λ i. with_number unit (zero-more i) (sym d i))
        where
          zero-more : k ≡ k + 0
          zero-more = omega arith
      go (no d) (inl h) next = absurd (d h)
      go (no d) (inr h) next = next h ∙ ap (λ j. with_number unit j n) more
        where
          more : suc k + index_of naming n ns ≡ k + suc (index_of naming n ns)
          more = omega arith

  away : (k : ℕ) (n : Name) (ns : List Name) → count ≤ k → AreNew ns → is_new unit count n ≡ false → IsAway naming n (numbered k ns)
  unfolding IsAway numbered AreNew Stands
  away k n [] c w h = tt
  away k n (m ∷ ns) c w h = (
    λ d. older m (w m (inl refl)) d,
    λ d. older (with_number unit k m) (new-number k m c) d,
    away (suc k) n ns (omega (arith, c)) (λ j s. w j (inr s)) h,
  )
    where
      older : (m : Name) → is_new unit count m ≡ true → n ≡ m → ⊥
      older m g d = let j : is_new unit count n ≡ is_new unit count m = ap (is_new unit count) d in cc

  -- the renaming of an object's new names

  numbering : (S : Sig Name) → (r : Renaming naming) × TakesAll naming r.to (numbered count (new_names unit count S))
      × ((n : Name) → IsAway naming n (numbered count (new_names unit count S)) → r.to n ≡ n)
  unfolding AreNew
  numbering S =
      built naming (numbered count (new_names unit count S)) (are-pairs count (new_names unit count S) (omega arith) (no-repeats S) (new-is S))

  old-stays : (S : Sig Name) (n : Name) → is_new unit count n ≡ false → (numbering S).0.to n ≡ n
  unfolding AreNew
  old-stays S n h = (numbering S).2 n (away count n (new_names unit count S) (omega arith) (new-is S) h)

  numbering-is : (S : Sig Name) (n : Name) → Stands n (names_sig S) → (numbering S).0.to n ≡ renumber unit count (new_names unit count S) n
  numbering-is S n h = go (stands-or-not naming n ns)
    where
      ns : List Name
      ns = new_names unit count S

      go : (stands naming n ns ≡ true) ⊎ (stands naming n ns ≡ false) → (numbering S).0.to n ≡ renumber unit count ns n
      go (inl s) = taken (numbering S).0.to count n ns (numbering S).1 (was_found naming n ns s) ∙ sym (kept-place ns n s)
      go (inr s) = old-stays S n (not-new S n h s) ∙ sym (kept-name ns n s)

  canonical-is : (S : Sig Name) → rename_sig (numbering S).0.to S ≡ canonical unit count S
  unfolding canonical
  canonical-is S = sig-agree (numbering S).0.to (renumber unit count (new_names unit count S)) S (numbering-is S)

  age-kept : (S : Sig Name) (n : Name) → Stands n (names_sig S) → is_new unit count ((numbering S).0.to n) ≡ is_new unit count n
  age-kept S n h = ap (is_new unit count) (numbering-is S n h) ∙ go (stands-or-not naming n ns)
    where
      ns : List Name
      ns = new_names unit count S

      go : (stands naming n ns ≡ true) ⊎ (stands naming n ns ≡ false) → is_new unit count (renumber unit count ns n) ≡ is_new unit count n
      go (inl s) =
          ap (is_new unit count) (kept-place ns n s)
          ∙ new-number (count + index_of naming n ns) n (omega arith)
          ∙ sym (new-is S n (was_found naming n ns s))
      go (inr s) = ap (is_new unit count) (kept-name ns n s)

  numbers : (f : Name → Name) (k : ℕ) (ns : List Name) → TakesAll naming f (numbered k ns) → map number_of (map f ns) ≡ range_with_len k (length ns)
  unfolding TakesAll numbered
  numbers f k [] t = refl
  numbers f k (n ∷ ns) t = λ i. number_of (t.0 i) ∷ (numbers f (suc k) ns t.1 ∙ ap (λ j. range_with_len j (length ns)) (sym (add-one k))) i

pub canonical-numbers : CanonicalNumbers
canonical-numbers unit count S =
    let f : Renaming naming = (numbering unit count S).0 in
    ap (λ T. map number_of (new_names unit count T)) (sym (canonical-is unit count S))
    ∙ ap (map number_of) (moved-names unit count f.to (one_to_one naming f) S (age-kept unit count S))
    ∙ numbers unit count f.to count (new_names unit count S) (numbering unit count S).1

pub canonical-renames : CanonicalRenames
unfolding AlikeOver
canonical-renames unit count B S old =
    ((numbering unit count S).0, fixed-each (numbering unit count S).0.to (names_basis B) (λ n s. old-stays unit count S n (old n s)), canonical-is unit count S)

pub canonical-one : CanonicalIsOne
unfolding AlikeOver
canonical-one unit count B R S over over' (f, fixed, e) = forms-equal unit count B R S over over' f fixed e
