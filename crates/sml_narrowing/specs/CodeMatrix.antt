-- How a first column is split by heads, and rows are narrowed to each.
use Rattle.std.specs.Prelude.{ℕ, zero, suc, map, List, [], ◌∷◌, ◌++◌, Bool, true, false, ◌||◌, ◌&&◌, cond, nat_eq, Option, Some, None}
use Rattle.std.specs.List.{list_any}
use Rattle.std.specs.Str.{bytes_eq}
use Rattle.sml_tree.specs.Trees.{Id}
use Rattle.sml_narrowing.specs.Plain.{Value, value_eq, Plain, Wild, Made, Fields, Valued, Row, Empty, Labelled, field}

-- what a column is narrowed to: one constructor, rows with these labels, one value, or what no pattern there names
pub data Head : Type 0 where
  AtConstructor : ℕ → Head
  AtRow : List Id → Head
  AtValue : Value → Head
  AtOther : Head

abbrev pub field_in : Row → Id → Plain
field_in fs l = field l fs

abbrev pub wild_at : Id → Plain
wild_at l = Wild

-- what stands in place of a pattern that covers the head
abbrev pub replace : Head → Plain → Option (List Plain)
replace (AtConstructor k) Wild = Some (Wild ∷ [])
replace (AtConstructor k) (Made j n p) = cond (nat_eq j k) (Some (p ∷ [])) None
replace (AtConstructor k) (Fields fs) = None
replace (AtConstructor k) (Valued v p) = None
replace (AtRow ls) Wild = Some (map wild_at ls)
replace (AtRow ls) (Made j m p) = None
replace (AtRow ls) (Fields fs) = Some (map (field_in fs) ls)
replace (AtRow ls) (Valued v p) = None
replace (AtValue u) Wild = Some (Wild ∷ [])
replace (AtValue u) (Made j m p) = None
replace (AtValue u) (Fields fs) = None
replace (AtValue u) (Valued v p) = cond (value_eq v u) (Some (p ∷ [])) None
replace AtOther Wild = Some []
replace AtOther (Made j m p) = None
replace AtOther (Fields fs) = None
replace AtOther (Valued v p) = None

abbrev pub onto : List Plain → Option (List Plain) → Option (List Plain)
onto r None = None
onto r (Some ps) = Some (ps ++ r)

abbrev pub narrow : Head → List Plain → Option (List Plain)
narrow h [] = None
narrow h (p ∷ r) = onto r (replace h p)

abbrev pub kept : Option (List Plain) → List (List Plain) → List (List Plain)
kept None rows = rows
kept (Some r) rows = r ∷ rows

abbrev pub narrow_all : Head → List (List Plain) → List (List Plain)
narrow_all h [] = []
narrow_all h (r ∷ rs) = kept (narrow h r) (narrow_all h rs)

abbrev pub first_of : List Plain → Plain
first_of [] = Wild
first_of (p ∷ r) = p

abbrev pub or_plain : Plain → Plain → Plain
or_plain Wild q = q
or_plain (Made j n p) q = Made j n p
or_plain (Fields fs) q = Fields fs
or_plain (Valued v p) q = Valued v p

-- the first pattern of the first column that isn't a wildcard
abbrev pub first_kind : List (List Plain) → Plain
first_kind [] = Wild
first_kind (r ∷ rs) = or_plain (first_of r) (first_kind rs)

abbrev pub is_made : ℕ → Plain → Bool
is_made k Wild = false
is_made k (Made j n p) = nat_eq j k
is_made k (Fields fs) = false
is_made k (Valued v p) = false

abbrev pub has : ℕ → List (List Plain) → Bool
has k [] = false
has k (r ∷ rs) = is_made k (first_of r) || has k rs

-- each constructor below n stands in the first column
abbrev pub has_below : ℕ → List (List Plain) → Bool
has_below zero rows = true
has_below (suc n) rows = has n rows && has_below n rows

abbrev pub below : ℕ → List Head
below zero = []
below (suc n) = AtConstructor n ∷ below n

-- the labels of a column, each once
abbrev pub has_label : List Id → Id → Bool
has_label ls l = list_any (bytes_eq l) ls

abbrev pub with_label : List Id → Id → List Id
with_label ls l = cond (has_label ls l) ls (l ∷ ls)

abbrev pub with_row : List Id → Row → List Id
with_row ls Empty = ls
with_row ls (Labelled l p fs) = with_row (with_label ls l) fs

abbrev pub with_plain : List Id → Plain → List Id
with_plain ls Wild = ls
with_plain ls (Made k n p) = ls
with_plain ls (Fields fs) = with_row ls fs
with_plain ls (Valued v p) = ls

abbrev pub with_column : List Id → List (List Plain) → List Id
with_column ls [] = ls
with_column ls (r ∷ rs) = with_column (with_plain ls (first_of r)) rs

abbrev pub column_labels : Plain → List (List Plain) → List Id
column_labels p rows = with_column (with_plain [] p) rows

abbrev pub spread : Plain → List (List Plain) → List Head
spread Wild rows = AtOther ∷ []
spread (Made k n p) rows = cond (has_below n rows) (below n) (AtOther ∷ [])
spread (Fields fs) rows = AtRow (column_labels Wild rows) ∷ []
spread (Valued v p) rows = AtOther ∷ []

-- the heads that the first column is split by
abbrev pub heads : Plain → List (List Plain) → List Head
heads Wild rows = spread (first_kind rows) rows
heads (Made k n p) rows = AtConstructor k ∷ []
heads (Fields fs) rows = AtRow (column_labels (Fields fs) rows) ∷ []
heads (Valued v p) rows = AtValue v ∷ []
