-- The fields of a row by their labels.
use Rattle.std.proofs.Common.{◌≡◌, ℕ, zero, suc, ◌<◌, ◌≤◌, length, get_or, Bor, Option, Some, None, MatchOption, option_copied, List, [], ◌∷◌, refl, ap, ◌∙◌, sym, arith}
use Rattle.std.proofs.lemmas.Cmp.{nat_list_cmp_total}
use Rattle.std.proofs.lemmas.Map.Lookups.{exact_bytes}
use Rattle.std.specs.List.Sorted.{IsStrictlySortedBy}
use Rattle.std.specs.List.{HoldsAt, slice_get}
use Rattle.std.specs.Ordering.{ordering_reverse}
use Rattle.std.specs.declared.cmp.Ordering.{Ordering}
use Rattle.std.specs.declared.cmp.Ordering.TheVariants.{Less, Equal, Greater}
use Rattle.sml_tree.specs.Trees.{Id}
use Rattle.sml_objects.specs.Labels.{AreRising, StandsAt, with_labels}
use Rattle.sml_objects.specs.Maps.{by_order, lookup, order_of}
use Rattle.sml_objects.proofs.LabelPlaces.{stands-once}

own-order : (o : Ordering) → o ≡ ordering_reverse o → o ≡ Equal
own-order Less h = cc
own-order Equal h = refl
own-order Greater h = cc

order-own : (x : Id) → order_of x x ≡ Equal
order-own x = own-order (order_of x x) (nat_list_cmp_total.antisymm x x)

passed : {A : Type 0} (o : Ordering) (a b : A) → ¬ (o ≡ Equal) → by_order o a b a ≡ a
passed Less a b n = refl
passed Equal a b n = absurd (n refl)
passed Greater a b n = refl

-- no label stands in its place and further on
not-first : (m l : Id) (ls : List Id) (i : ℕ) → AreRising (m ∷ ls) → StandsAt ls l i → ¬ (order_of l m ≡ Equal)
not-first m l ls i r s e = let z : 0 ≡ suc i = stands-once (m ∷ ls) l 0 (suc i) r (omega arith, sym (exact_bytes l m e)) (omega (arith, s.0), s.1) in absurd (omega (arith, z))

module _ {A : Type 0} where
  got-at : (ts : List A) (i : ℕ) (t : A) → i < length ts → t ≡ get_or ts i t → slice_get ts i ≡ Some t
  got-at [] i t n h = absurd (omega (arith, n))
  got-at (u ∷ ts) zero t n h = ap Some (sym h)
  got-at (u ∷ ts) (suc i) t n h = got-at ts i t (omega (arith, n)) h

  got-past : (ts : List A) (i : ℕ) → length ts ≤ i → slice_get ts i ≡ None
  got-past [] i n = refl
  got-past (u ∷ ts) zero n = absurd (omega (arith, n))
  got-past (u ∷ ts) (suc i) n = got-past ts i (omega (arith, n))

  -- what `get` answers
  pub got : (ts : List A) (i : ℕ) (r : Option (Bor A)) → MatchOption r (length ts ≤ i) (λ t. (i < length ts) × HoldsAt (λ u. t.now ≡ u) ts i)
      → option_copied r ≡ slice_get ts i
  got ts i None h = sym (got-past ts i h)
  got ts i (Some t) h = sym (got-at ts i t.now h.0 (h.1 t.now))

  -- the field of a label, if there are so many
  pub field-at : (ls : List Id) (ts : List A) (l : Id) (i : ℕ) → AreRising ls → StandsAt ls l i → lookup l (with_labels ls ts) ≡ slice_get ts i
  unfolding IsStrictlySortedBy
  field-at [] ts l i r s = absurd (omega (arith, s.0))
  field-at (m ∷ ls) [] l i r s = refl
  field-at (m ∷ ls) (t ∷ ts) l zero r s =
      ap (λ o. by_order o (lookup l (with_labels ls ts)) (Some t) (lookup l (with_labels ls ts))) (ap (order_of l) s.1 ∙ order-own l)
  field-at (m ∷ ls) (t ∷ ts) l (suc i) r s =
      let s' : StandsAt ls l i = (omega (arith, s.0), s.1) in
      passed (order_of l m) (lookup l (with_labels ls ts)) (Some t) (not-first m l ls i r s') ∙ field-at ls ts l i r.1 s'

  -- that of another label
  pub no-field : (ls : List Id) (ts : List A) (l : Id) → ((i : ℕ) → ¬ (StandsAt ls l i)) → lookup l (with_labels ls ts) ≡ None
  no-field [] ts l n = refl
  no-field (m ∷ ls) [] l n = refl
  no-field (m ∷ ls) (t ∷ ts) l n =
      passed (order_of l m) (lookup l (with_labels ls ts)) (Some t) (λ e. n 0 (omega arith, sym (exact_bytes l m e)))
      ∙ no-field ls ts l (λ i s. n (suc i) (omega (arith, s.0), s.1))
