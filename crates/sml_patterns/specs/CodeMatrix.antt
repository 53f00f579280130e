-- The search for an escaping shape by splitting the first column. No public contract rests on it.
use Rattle.std.specs.Prelude.{ℕ, zero, suc, ◌+◌, map, List, [], ◌∷◌, Bool, true, false, ◌||◌, Option, Some, None}
use Rattle.std.specs.List.{list_any}
use Rattle.sml_narrowing.specs.Plain.{Plain, Wild, Made, Fields, Valued, Row, Empty, Labelled}
use Rattle.sml_narrowing.specs.CodeMatrix.{Head, narrow, narrow_all, heads}

pub record Problem : Type 0 where
  pub rows : List (List Plain)
  pub question : List Plain

abbrev pub problem : List (List Plain) → List Plain → Problem
problem rows q = record { rows = rows; question = q }

abbrev pub with_problem : List (List Plain) → Option (List Plain) → List Problem → List Problem
with_problem rows None others = others
with_problem rows (Some q) others = problem rows q ∷ others

abbrev pub narrowed : List (List Plain) → List Plain → List Head → List Problem
narrowed rows q [] = []
narrowed rows q (h ∷ hs) = with_problem (narrow_all h rows) (narrow h q) (narrowed rows q hs)

abbrev pub successors_of : List (List Plain) → List Plain → List Problem
successors_of rows [] = []
successors_of rows (p ∷ q) = narrowed rows (p ∷ q) (heads p rows)

abbrev pub successors : Problem → List Problem
successors x = successors_of x.rows x.question

abbrev pub is_none_left : List Plain → List (List Plain) → Bool
is_none_left [] [] = true
is_none_left [] (r ∷ rs) = false
is_none_left (p ∷ q) rows = false

-- no column and no row is left
abbrev pub is_won : Problem → Bool
is_won x = is_none_left x.question x.rows

-- whether a won problem is reached in at most f steps
abbrev pub solve : ℕ → Problem → Bool
solve zero x = false
solve (suc f) x = is_won x || list_any (solve f) (successors x)

abbrev pub sum_of : List ℕ → ℕ
sum_of [] = 0
sum_of (n ∷ ns) = n + sum_of ns

-- the sum of the successors
abbrev pub sum_over : List ℕ → ℕ
sum_over [] = 0
sum_over (n ∷ ns) = 1 + n + sum_over ns

abbrev mutual
  -- one more than all below, and one for each field
  pub weight : Plain → ℕ
  weight Wild = 0
  weight (Made k n p) = 1 + weight p
  weight (Fields fs) = 1 + fields_weight fs
  weight (Valued v p) = 1 + weight p

  pub fields_weight : Row → ℕ
  fields_weight Empty = 0
  fields_weight (Labelled l p fs) = 1 + weight p + fields_weight fs

abbrev pub row_weight : List Plain → ℕ
row_weight ps = sum_of (map weight ps)

abbrev pub rows_weight : List (List Plain) → ℕ
rows_weight [] = 0
rows_weight (r ∷ rs) = row_weight r + rows_weight rs

-- each step of the search makes it less
abbrev pub problem_weight : Problem → ℕ
problem_weight x = rows_weight x.rows + sum_over (map weight x.question)

-- whether some shapes match the question and escape the rows
abbrev pub is_useful : List (List Plain) → List Plain → Bool
is_useful rows q = solve (suc (problem_weight (problem rows q))) (problem rows q)

-- each pattern as a row of its own
abbrev pub singles : List Plain → List (List Plain)
singles ps = map (λ p. p ∷ []) ps
