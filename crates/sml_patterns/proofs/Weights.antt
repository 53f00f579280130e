-- How the search makes a problem lighter.
use Rattle.std.proofs.Common.{◌≡◌, ℕ, zero, suc, ◌+◌, ◌≤◌, ◌<◌, map, List, [], ◌∷◌, ◌++◌, length, Option, Some, None, Bool, true, false, cond, ◌||◌, refl, ap, ◌∙◌, arith}
use Rattle.std.specs.List.{list_any}
use Rattle.std.proofs.Math.Dec.{eqb}
use Rattle.sml_tree.specs.Trees.{Id}
use Rattle.sml_narrowing.specs.Plain.{Value, value_eq, Plain, Wild, Made, Fields, Valued, Row}
use Rattle.sml_narrowing.specs.CodeMatrix.{Head, AtConstructor, AtRow, AtValue, AtOther, field_in, wild_at, replace, onto, narrow, narrow_all, kept, first_of, or_plain, first_kind, has_below, below, column_labels, spread, heads}
use Rattle.sml_patterns.specs.CodeMatrix.{Problem, problem, with_problem, narrowed, successors_of, successors, is_won, solve, sum_over, weight, fields_weight, row_weight, rows_weight, problem_weight}
use Rattle.sml_patterns.proofs.Labels.{IsGood, Sees, SeesRows, count, surplus, rows_surplus, column_distinct, column_sees, column_sees_rows, fields_length, wild_length, wilds_weight, picks_weight}
use Rattle.sml_patterns.proofs.Narrowing.{IfKept}

abbrev pub over : List Plain → ℕ
over ps = sum_over (map weight ps)

row_append : (ps r : List Plain) → row_weight (ps ++ r) ≡ row_weight ps + row_weight r
row_append [] r = omega arith
row_append (p ∷ ps) r = omega (arith, row_append ps r)

over_append : (ps r : List Plain) → over (ps ++ r) ≡ over ps + over r
over_append [] r = omega arith
over_append (p ∷ ps) r = omega (arith, over_append ps r)

over_wilds : (ls : List Id) → over (map wild_at ls) ≡ length ls
over_wilds [] = refl
over_wilds (l ∷ ls) = omega (arith, over_wilds ls)

over_picks : (fs : Row) (ls : List Id) → over (map (field_in fs) ls) ≡ length ls + row_weight (map (field_in fs) ls)
over_picks fs [] = omega arith
over_picks fs (l ∷ ls) = omega (arith, over_picks fs ls)

count_le : (fs : Row) → count fs ≤ fields_weight fs
count_le fs = omega (arith, picks_weight fs [] tt)

surplus_le : (p : Plain) → surplus p ≤ weight p
surplus_le Wild = omega arith
surplus_le (Made k n p) = omega arith
surplus_le (Fields fs) = omega (arith, count_le fs)
surplus_le (Valued v p) = omega arith

surplus_or : (p q : Plain) → surplus (or_plain p q) ≤ surplus p + surplus q
surplus_or Wild q = omega arith
surplus_or (Made k n p) q = omega arith
surplus_or (Fields fs) q = omega arith
surplus_or (Valued v p) q = omega arith

first_surplus : (rs : List (List Plain)) → surplus (first_kind rs) ≤ rows_surplus rs
first_surplus [] = omega arith
first_surplus (r ∷ rs) = omega (arith, surplus_or (first_of r) (first_kind rs), first_surplus rs)

cond_falls : (b : Bool) (ps r : List Plain) (m : ℕ) → row_weight (ps ++ r) + 1 ≤ m → IfKept (λ t. row_weight t + 1 ≤ m) (onto r (cond b (Some ps) None))
cond_falls true ps r m h = h
cond_falls false ps r m h = tt

row_falls : (h : Head) → IsGood h → (p : Plain) (r : List Plain) → IfKept (λ t. row_weight t + surplus p ≤ weight p + row_weight r) (onto r (replace h p))
row_falls (AtConstructor k) g Wild r = omega arith
row_falls (AtConstructor k) g (Made j n p) r = cond_falls (eqb j k) (p ∷ []) r (1 + weight p + row_weight r) (omega arith)
row_falls (AtConstructor k) g (Fields fs) r = tt
row_falls (AtConstructor k) g (Valued v p) r = tt
row_falls (AtRow ls) g Wild r = omega (arith, row_append (map wild_at ls) r, wilds_weight ls)
row_falls (AtRow ls) g (Made j m p) r = tt
row_falls (AtRow ls) g (Fields fs) r = omega (arith, row_append (map (field_in fs) ls) r, picks_weight fs ls g)
row_falls (AtRow ls) g (Valued v p) r = tt
row_falls (AtValue u) g Wild r = omega arith
row_falls (AtValue u) g (Made j n p) r = tt
row_falls (AtValue u) g (Fields fs) r = tt
row_falls (AtValue u) g (Valued v p) r = cond_falls (value_eq v u) (p ∷ []) r (1 + weight p + row_weight r) (omega arith)
row_falls AtOther g Wild r = omega arith
row_falls AtOther g (Made j n p) r = tt
row_falls AtOther g (Fields fs) r = tt
row_falls AtOther g (Valued v p) r = tt

kept_falls : (o : Option (List Plain)) (rs : List (List Plain)) (s m : ℕ) → s ≤ m → IfKept (λ t. row_weight t + s ≤ m) o → rows_weight (kept o rs) + s ≤ m + rows_weight rs
kept_falls None rs s m h k = omega arith
kept_falls (Some t) rs s m h k = omega (arith, k)

pub rows_fall : (h : Head) → IsGood h → (rs : List (List Plain)) → rows_weight (narrow_all h rs) + rows_surplus rs ≤ rows_weight rs
rows_fall h g [] = omega arith
rows_fall h g ([] ∷ rs) = omega (arith, rows_fall h g rs)
rows_fall h g ((p ∷ r) ∷ rs) =
    let here = kept_falls (narrow h (p ∷ r)) (narrow_all h rs) (surplus p) (weight p + row_weight r) (omega (arith, surplus_le p)) (row_falls h g p r) in
    omega (arith, here, rows_fall h g rs)

-- each head, each problem
abbrev pub EachHead : (Head → Type 0) → List Head → Type 0
EachHead Q [] = Unit {0}
EachHead Q (h ∷ hs) = Q h × EachHead Q hs

abbrev pub EachProblem : (Problem → Type 0) → List Problem → Type 0
EachProblem Q [] = Unit {0}
EachProblem Q (x ∷ xs) = Q x × EachProblem Q xs

below_each : (Q : Head → Type 0) → ((k : ℕ) → Q (AtConstructor k)) → (n : ℕ) → EachHead Q (below n)
below_each Q f zero = tt
below_each Q f (suc n) = (f n, below_each Q f n)

cond_each : (Q : Head → Type 0) → ((k : ℕ) → Q (AtConstructor k)) → Q AtOther → (b : Bool) (n : ℕ) → EachHead Q (cond b (below n) (AtOther ∷ []))
cond_each Q f o true n = below_each Q f n
cond_each Q f o false n = (o, tt)

-- what holds of heads without labels, and of those of the column
heads_each : (Q : Head → Type 0) (p : Plain) (rs : List (List Plain)) → ((k : ℕ) → Q (AtConstructor k)) → ((v : Value) → Q (AtValue v)) → Q AtOther → Q (AtRow (column_labels p rs)) → EachHead Q (heads p rs)
heads_each Q Wild rs f g o r = spread_each (first_kind rs)
  where
    spread_each : (q : Plain) → EachHead Q (spread q rs)
    spread_each Wild = (o, tt)
    spread_each (Made k n p) = cond_each Q f o (has_below n rs) n
    spread_each (Fields fs) = (r, tt)
    spread_each (Valued v p) = (o, tt)
heads_each Q (Made k n p) rs f g o r = (f k, tt)
heads_each Q (Fields fs) rs f g o r = (r, tt)
heads_each Q (Valued v p) rs f g o r = (g v, tt)

all_seen : (h : Head) → ((p : Plain) → Sees h p) → (rs : List (List Plain)) → SeesRows h rs
all_seen h f [] = tt
all_seen h f (r ∷ rs) = (f (first_of r), all_seen h f rs)

-- the heads see the column, and name each label once
pub heads_see : (p : Plain) (rs : List (List Plain)) → EachHead (λ h. IsGood h × Sees h p × SeesRows h rs) (heads p rs)
heads_see p rs =
    heads_each (λ h. IsGood h × Sees h p × SeesRows h rs) p rs (λ k. (tt, tt, all_seen (AtConstructor k) (λ q. tt) rs)) (λ v. (tt, tt, all_seen (AtValue v) (λ q. tt) rs)) (tt, tt, all_seen AtOther (λ q. tt) rs)
    (column_distinct p rs, column_sees p rs, column_sees_rows p rs)

module _ (rs : List (List Plain)) (q : List Plain) where
  -- the question narrowed to h is lighter by more than the rows grow
  abbrev pub Lightens : Plain → Head → Type 0
  Lightens p h = IfKept (λ t. over t < 1 + weight p + over q + rows_surplus rs) (onto q (replace h p))

  cond_lightens : (b : Bool) (ps : List Plain) (m : ℕ) → over (ps ++ q) < m → IfKept (λ t. over t < m) (onto q (cond b (Some ps) None))
  cond_lightens true ps m h = h
  cond_lightens false ps m h = tt

  below_lightens : 1 ≤ rows_surplus rs → (n : ℕ) → EachHead (Lightens Wild) (below n)
  below_lightens h zero = tt
  below_lightens h (suc n) = (omega arith, below_lightens h n)

  cond_heads : 1 ≤ rows_surplus rs → (b : Bool) (n : ℕ) → EachHead (Lightens Wild) (cond b (below n) (AtOther ∷ []))
  cond_heads h true n = below_lightens h n
  cond_heads h false n = (omega arith, tt)

  spread_lightens : (p : Plain) → surplus p ≤ rows_surplus rs → EachHead (Lightens Wild) (spread p rs)
  spread_lightens Wild h = (omega arith, tt)
  spread_lightens (Made k n p) h = cond_heads h (has_below n rs) n
  spread_lightens (Fields fs) h =
      (omega (arith, over_append (map wild_at (column_labels Wild rs)) q, over_wilds (column_labels Wild rs), wild_length rs), tt)
  spread_lightens (Valued v p) h = (omega arith, tt)

  heads_lighten : (p : Plain) → EachHead (Lightens p) (heads p rs)
  heads_lighten Wild = spread_lightens (first_kind rs) (first_surplus rs)
  heads_lighten (Made k n p) =
      (cond_lightens (eqb k k) (p ∷ []) (1 + (1 + weight p) + over q + rows_surplus rs) (omega arith), tt)
  heads_lighten (Fields fs) =
      let ls = column_labels (Fields fs) rs in
      (omega (arith, over_append (map (field_in fs) ls) q, over_picks fs ls, picks_weight fs ls (column_distinct (Fields fs) rs), fields_length fs rs), tt)
  heads_lighten (Valued v p) =
      (cond_lightens (value_eq v v) (p ∷ []) (1 + (1 + weight p) + over q + rows_surplus rs) (omega arith), tt)

  lighter_one : (h : Head) (p : Plain) → IsGood h → (o : Option (List Plain)) → IfKept (λ t. over t < 1 + weight p + over q + rows_surplus rs) o → IfKept (λ t. problem_weight (problem (narrow_all h rs) t) < problem_weight (problem rs (p ∷ q))) o
  lighter_one h p g None k = tt
  lighter_one h p g (Some t) k = omega (arith, k, rows_fall h g rs)

  lighter_each : (p : Plain) (hs : List Head) → EachHead (λ h. IsGood h × Sees h p × SeesRows h rs) hs → EachHead (Lightens p) hs → EachHead (λ h. IfKept (λ t. problem_weight (problem (narrow_all h rs) t) < problem_weight (problem rs (p ∷ q))) (narrow h (p ∷ q))) hs
  lighter_each p [] g k = tt
  lighter_each p (h ∷ hs) g k = (lighter_one h p g.0.0 (narrow h (p ∷ q)) k.0, lighter_each p hs g.1 k.1)

  pub heads_fall : (p : Plain) → EachHead (λ h. IfKept (λ t. problem_weight (problem (narrow_all h rs) t) < problem_weight (problem rs (p ∷ q))) (narrow h (p ∷ q))) (heads p rs)
  heads_fall p = lighter_each p (heads p rs) (heads_see p rs) (heads_lighten p)

  with_each : (Q : Problem → Type 0) (rows : List (List Plain)) (o : Option (List Plain)) (xs : List Problem) → IfKept (λ t. Q (problem rows t)) o → EachProblem Q xs → EachProblem Q (with_problem rows o xs)
  with_each Q rows None xs h k = k
  with_each Q rows (Some t) xs h k = (h, k)

  narrowed_each : (Q : Problem → Type 0) (hs : List Head) (p : Plain) → EachHead (λ h. IfKept (λ t. Q (problem (narrow_all h rs) t)) (narrow h (p ∷ q))) hs → EachProblem Q (narrowed rs (p ∷ q) hs)
  narrowed_each Q [] p k = tt
  narrowed_each Q (h ∷ hs) p k =
      with_each Q (narrow_all h rs) (narrow h (p ∷ q)) (narrowed rs (p ∷ q) hs) k.0 (narrowed_each Q hs p k.1)

pub successors_fall_of : (rs : List (List Plain)) (q : List Plain) → EachProblem (λ y. problem_weight y < problem_weight (problem rs q)) (successors_of rs q)
successors_fall_of rs [] = tt
successors_fall_of rs (p ∷ q) =
    narrowed_each rs q (λ y. problem_weight y < problem_weight (problem rs (p ∷ q))) (heads p rs) p (heads_fall rs q p)

-- each successor is lighter
pub successors_fall : (x : Problem) → EachProblem (λ y. problem_weight y < problem_weight x) (successors x)
successors_fall x = successors_fall_of x.rows x.question

pub any_same : (f g : ℕ) (xs : List Problem) → EachProblem (λ y. solve f y ≡ solve g y) xs → list_any (solve f) xs ≡ list_any (solve g) xs
any_same f g [] h = refl
any_same f g (x ∷ xs) h = ap (λ b. b || list_any (solve f) xs) h.0 ∙ ap (λ b. solve g x || b) (any_same f g xs h.1)

pub each_map : (P Q : Problem → Type 0) → ((x : Problem) → P x → Q x) → (xs : List Problem) → EachProblem P xs → EachProblem Q xs
each_map P Q m [] h = tt
each_map P Q m (x ∷ xs) h = (m x h.0, each_map P Q m xs h.1)

-- more fuel than the weight changes nothing
pub solve_same : (f g : ℕ) (x : Problem) → problem_weight x < f → problem_weight x < g → solve f x ≡ solve g x
solve_same zero g x h k = absurd (omega arith)
solve_same (suc f) zero x h k = absurd (omega arith)
solve_same (suc f) (suc g) x h k =
    ap (λ b. is_won x || b)
    (any_same f g (successors x)
    (each_map (λ y. problem_weight y < problem_weight x) (λ y. solve f y ≡ solve g y)
    (λ y i. solve_same f g y (omega (arith, i, h)) (omega (arith, i, k))) (successors x) (successors_fall x)))
