-- Labels of rows (the Definition, sections 2.4 and 4.2). A label is an identifier; the numbers come first, by their value, and
-- then the others in byte order.
use Rattle.std.specs.Prelude.{◌≡◌, ◌<◌, slice_index_or, ℕ, zero, suc, ◌-◌, ◌^◌, Bool, false, cond, ◌&&◌, nat_lt, List, [], ◌∷◌, length, decimal}
use Rattle.std.specs.List.Sorted.{IsStrictlySortedBy}
use Rattle.std.specs.Ordering.{nat_cmp, ordering_then}
use Rattle.std.specs.declared.cmp.Ordering.{Ordering}
use Rattle.sml_tree.specs.Trees.{Id}
use Rattle.sml_objects.specs.Maps.{Map, order_of}

-- whether its first byte is one of the digits 1 to 9
abbrev pub is_number : Id → Bool
is_number [] = false
is_number (b ∷ bs) = nat_lt 48 b && nat_lt b 58

-- the length of a number, and else more than any text is long
abbrev pub label_rank : Id → ℕ
label_rank x = cond (is_number x) (length x) (2 ^ 64 - 1)

abbrev pub label_order : Id → Id → Ordering
label_order x y = ordering_then (nat_cmp (label_rank x) (label_rank y)) (order_of x y)

-- each label is below those after it
abbrev pub AreRising : List Id → Type 0
AreRising ls = IsStrictlySortedBy label_order ls

-- the label is the one at this place, counted from 0
abbrev pub StandsAt : List Id → Id → ℕ → Type 0
StandsAt ls l i = (i < length ls) × (slice_index_or ls i [] ≡ l)

-- the fields of a row, each after its label
abbrev pub with_labels : {X : Type 0} → List Id → List X → Map X
with_labels [] xs = []
with_labels (l ∷ ls) [] = []
with_labels (l ∷ ls) (x ∷ xs) = (l, x) ∷ with_labels ls xs

-- so many numbers from k on
abbrev pub numbers : ℕ → ℕ → List Id
numbers k zero = []
numbers k (suc n) = decimal k ∷ numbers (suc k) n
