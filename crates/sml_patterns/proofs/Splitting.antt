-- What splitting the first column does to what is useful.
use Rattle.std.proofs.Common.{◌≡◌, ℕ, zero, suc, ◌<◌, ◌⊎◌, inl, inr, List, [], ◌∷◌, ◌++◌, Option, Some, None, Bool, true, false, ◌||◌, ◌&&◌, refl, sym, subst, arith}
use Rattle.std.proofs.lemmas.Bool.Decides.{eqb_tells}
use Rattle.sml_narrowing.specs.Plain.{Plain, Wild, Made, Fields, Valued, IsWild}
use Rattle.sml_patterns.specs.Shape.{Shape, OfConstructor, Other, Matches, World, Column, Part, part}
use Rattle.sml_narrowing.specs.CodeMatrix.{Head, AtOther, replace, onto, narrow, narrow_all, kept, first_of, or_plain, first_kind, is_made, has, has_below}
use Rattle.sml_patterns.proofs.Labels.{Sees, SeesRows}
use Rattle.sml_patterns.proofs.Vectors.{Shapes, Then, MatchEach, AreShapes, EscapesAll, Useful, join, FitEach, split, glue}
use Rattle.sml_patterns.proofs.Narrowing.{FitsPart, fits_part, Suits, under, build, build_shape, Alike, Kept, IfKept, narrowed_fits, other_fits, match_to, match_from}

abbrev pub FitRows : World → List Column → List (List Plain) → Type 0
FitRows w cs [] = Unit {0}
FitRows w cs (r ∷ rs) = FitEach w cs r × FitRows w cs rs

fit_kept : (w : World) (cs : List Column) (o : Option (List Plain)) (rs : List (List Plain)) → IfKept (FitEach w cs) o → FitRows w cs rs → FitRows w cs (kept o rs)
fit_kept w cs None rs h k = k
fit_kept w cs (Some r) rs h k = (h, k)

escapes_kept : (o : Option (List Plain)) (rs : List (List Plain)) (v : Shapes) → (Kept (λ t. MatchEach t v) o → ⊥) → EscapesAll rs v → EscapesAll (kept o rs) v
escapes_kept None rs v h k = k
escapes_kept (Some r) rs v h k = (h, k)

kept_escapes : (o : Option (List Plain)) (rs : List (List Plain)) (v : Shapes) → EscapesAll (kept o rs) v → (Kept (λ t. MatchEach t v) o → ⊥) × EscapesAll rs v
kept_escapes None rs v h = (λ n. n, h)
kept_escapes (Some r) rs v h = h

-- what can't be told apart escapes the same rows
escapes_alike : (h : Head) (s t : Shape) (x : Shapes) → Alike h s t → (rs : List (List Plain)) → SeesRows h rs → EscapesAll rs (Then s x) → EscapesAll rs (Then t x)
escapes_alike h s t x i [] k n = tt
escapes_alike h s t x i ([] ∷ rs) k n = (λ m. m, escapes_alike h s t x i rs k.1 n.1)
escapes_alike h s t x i ((p ∷ r) ∷ rs) k n =
    (λ m. n.0 ((i p k.0).1 m.0, m.1), escapes_alike h s t x i rs k.1 n.1)

module _ (w : World) (c : Column) (cs : List Column) where
  pub rows_fit : (h : Head) → Suits w (part w c) h → (rs : List (List Plain)) → FitRows w (c ∷ cs) rs → FitRows w (under (part w c) h ++ cs) (narrow_all h rs)
  rows_fit h s [] f = tt
  rows_fit h s ([] ∷ rs) f = absurd f.0
  rows_fit h s ((p ∷ r) ∷ rs) f =
      fit_kept w (under (part w c) h ++ cs) (narrow h (p ∷ r)) (narrow_all h rs)
      (narrowed_fits w r cs (part w c) h p s (fits_part w c.depth c.type p f.0.0) f.0.1)
      (rows_fit h s rs f.1)

  pub other_rows_fit : (rs : List (List Plain)) → FitRows w (c ∷ cs) rs → FitRows w cs (narrow_all AtOther rs)
  other_rows_fit [] f = tt
  other_rows_fit ([] ∷ rs) f = absurd f.0
  other_rows_fit ((p ∷ r) ∷ rs) f =
      fit_kept w cs (narrow AtOther (p ∷ r)) (narrow_all AtOther rs) (other_fits w r cs p f.0.1) (other_rows_fit rs f.1)

  escapes_to : (h : Head) → Suits w (part w c) h → (u x : Shapes) → AreShapes w (under (part w c) h) u → (rs : List (List Plain)) → SeesRows h rs → FitRows w (c ∷ cs) rs → EscapesAll rs (Then (build w (part w c) h u) x) → EscapesAll (narrow_all h rs) (join u x)
  escapes_to h s u x k [] e f n = tt
  escapes_to h s u x k ([] ∷ rs) e f n = absurd f.0
  escapes_to h s u x k ((p ∷ r) ∷ rs) e f n =
      escapes_kept (narrow h (p ∷ r)) (narrow_all h rs) (join u x)
      (λ m. n.0 (match_from w r x (part w c) h p u s e.0 (fits_part w c.depth c.type p f.0.0) k m))
      (escapes_to h s u x k rs e.1 f.1 n.1)

  escapes_from : (h : Head) → Suits w (part w c) h → (u x : Shapes) → AreShapes w (under (part w c) h) u → (rs : List (List Plain)) → FitRows w (c ∷ cs) rs → EscapesAll (narrow_all h rs) (join u x) → EscapesAll rs (Then (build w (part w c) h u) x)
  escapes_from h s u x k [] f n = tt
  escapes_from h s u x k ([] ∷ rs) f n = absurd f.0
  escapes_from h s u x k ((p ∷ r) ∷ rs) f n =
      let both = kept_escapes (narrow h (p ∷ r)) (narrow_all h rs) (join u x) n in
      (λ m. both.0 (match_to w r x (part w c) h p u s (fits_part w c.depth c.type p f.0.0) k m.0 m.1), escapes_from h s u x k rs f.1 both.1)

  -- what the narrowed question finds, the question finds
  useful_from_at : (h : Head) → Suits w (part w c) h → (rs : List (List Plain)) → FitRows w (c ∷ cs) rs → (p : Plain) (q : List Plain) → Sees h p → FitEach w (c ∷ cs) (p ∷ q) → (o : Option (List Plain)) → narrow h (p ∷ q) ≡ o → Kept (λ t. Useful w (under (part w c) h ++ cs) (narrow_all h rs) t) o → Useful w (c ∷ cs) rs (p ∷ q)
  useful_from_at h s rs f p q e g None i k = absurd k
  useful_from_at h s rs f p q e g (Some t) i k =
      let parts = split w (under (part w c) h) cs k.0 k.1 in
      let u = parts.0 in
      let x = parts.1 in
      let whole = subst (λ v. MatchEach t v) parts.2 k.2 in
      let m = match_from w q x (part w c) h p u s e (fits_part w c.depth c.type p g.0) parts.3 (subst (Kept (λ t. MatchEach t (join u x))) (sym i) whole) in
      let n = escapes_from h s u x parts.3 rs f (subst (EscapesAll (narrow_all h rs)) parts.2 k.3) in
      (Then (build w (part w c) h u) x, (build_shape w (part w c) h u s parts.3, parts.4), m, n)

  pub useful_from : (h : Head) → Suits w (part w c) h → (rs : List (List Plain)) → FitRows w (c ∷ cs) rs → (p : Plain) (q : List Plain) → Sees h p → FitEach w (c ∷ cs) (p ∷ q) → Kept (λ t. Useful w (under (part w c) h ++ cs) (narrow_all h rs) t) (narrow h (p ∷ q)) → Useful w (c ∷ cs) rs (p ∷ q)
  useful_from h s rs f p q e g k = useful_from_at h s rs f p q e g (narrow h (p ∷ q)) refl k

  useful_to_at : (h : Head) (rs : List (List Plain)) (v : Shapes) → AreShapes w (under (part w c) h ++ cs) v → EscapesAll (narrow_all h rs) v → (o : Option (List Plain)) → Kept (λ t. MatchEach t v) o → Kept (λ t. Useful w (under (part w c) h ++ cs) (narrow_all h rs) t) o
  useful_to_at h rs v k n None m = m
  useful_to_at h rs v k n (Some t) m = (v, k, m, n)

  -- what the question finds at a shape with this head, the narrowed question finds
  pub useful_to : (h : Head) → Suits w (part w c) h → (rs : List (List Plain)) → SeesRows h rs → FitRows w (c ∷ cs) rs → (p : Plain) (q : List Plain) → Sees h p → FitEach w (c ∷ cs) (p ∷ q) → (s : Shape) (u x : Shapes) → Alike h s (build w (part w c) h u) → AreShapes w (under (part w c) h) u → AreShapes w cs x → MatchEach (p ∷ q) (Then s x) → EscapesAll rs (Then s x) → Kept (λ t. Useful w (under (part w c) h ++ cs) (narrow_all h rs) t) (narrow h (p ∷ q))
  useful_to h k rs o f p q e g s u x i y z m n =
      let n' = escapes_alike h s (build w (part w c) h u) x i rs o n in
      useful_to_at h rs (join u x) (glue w (under (part w c) h) cs u x y z) (escapes_to h k u x y rs o f n') (narrow h (p ∷ q))
      (match_to w q x (part w c) h p u k (fits_part w c.depth c.type p g.0) y ((i p e).0 m.0) m.1)

-- the shape is matched by no pattern of the first column but wildcards
abbrev pub Misses : Shape → List (List Plain) → Type 0
Misses s [] = Unit {0}
Misses s (r ∷ rs) = (Matches (first_of r) s → IsWild (first_of r)) × Misses s rs

other_row_to : (l : Plain) (r : List Plain) (s : Shape) (x : Shapes) → Kept (λ t. MatchEach t x) (onto r (replace AtOther l)) → Matches l s × MatchEach r x
other_row_to Wild r s x m = (tt, m)
other_row_to (Made k n p) r s x m = absurd m
other_row_to (Fields fs) r s x m = absurd m
other_row_to (Valued v p) r s x m = absurd m

other_row_from : (l : Plain) (r : List Plain) (x : Shapes) → IsWild l → MatchEach r x → Kept (λ t. MatchEach t x) (onto r (replace AtOther l))
other_row_from Wild r x h m = m
other_row_from (Made k n p) r x h m = absurd h
other_row_from (Fields fs) r x h m = absurd h
other_row_from (Valued v p) r x h m = absurd h

pub other_escapes_to : (s : Shape) (x : Shapes) (rs : List (List Plain)) → EscapesAll rs (Then s x) → EscapesAll (narrow_all AtOther rs) x
other_escapes_to s x [] n = tt
other_escapes_to s x ([] ∷ rs) n = other_escapes_to s x rs n.1
other_escapes_to s x ((p ∷ r) ∷ rs) n =
    escapes_kept (narrow AtOther (p ∷ r)) (narrow_all AtOther rs) x (λ m. n.0 (other_row_to p r s x m)) (other_escapes_to s x rs n.1)

pub other_escapes_from : (s : Shape) (x : Shapes) (rs : List (List Plain)) → Misses s rs → EscapesAll (narrow_all AtOther rs) x → EscapesAll rs (Then s x)
other_escapes_from s x [] h n = tt
other_escapes_from s x ([] ∷ rs) h n = (λ m. m, other_escapes_from s x rs h.1 n)
other_escapes_from s x ((p ∷ r) ∷ rs) h n =
    let both = kept_escapes (narrow AtOther (p ∷ r)) (narrow_all AtOther rs) x n in
    (λ m. both.0 (other_row_from p r x (h.0 m.0) m.1), other_escapes_from s x rs h.1 both.1)

-- the first pattern that isn't a wildcard has the column's kind
or_fits : (w : World) (P : Part) (l m : Plain) → FitsPart w P l → FitsPart w P m → FitsPart w P (or_plain l m)
or_fits w P Wild m h k = k
or_fits w P (Made j n p) m h k = h
or_fits w P (Fields fs) m h k = h
or_fits w P (Valued v p) m h k = h

pub first_fits : (w : World) (c : Column) (cs : List Column) (rs : List (List Plain)) → FitRows w (c ∷ cs) rs → FitsPart w (part w c) (first_kind rs)
first_fits w c cs [] f = tt
first_fits w c cs ([] ∷ rs) f = absurd f.0
first_fits w c cs ((p ∷ r) ∷ rs) f =
    or_fits w (part w c) p (first_kind rs) (fits_part w c.depth c.type p f.0.0) (first_fits w c cs rs f.1)

-- where it is none, all are wildcards
or_wild : (l m : Plain) → or_plain l m ≡ Wild → IsWild l × (m ≡ Wild)
or_wild Wild m h = (tt, h)
or_wild (Made j n p) m h = absurd (cc)
or_wild (Fields fs) m h = absurd (cc)
or_wild (Valued v p) m h = absurd (cc)

pub all_wild_misses : (s : Shape) (rs : List (List Plain)) → first_kind rs ≡ Wild → Misses s rs
all_wild_misses s [] h = tt
all_wild_misses s (r ∷ rs) h =
    let both = or_wild (first_of r) (first_kind rs) h in
    (λ m. both.0, all_wild_misses s rs both.1)

-- a constructor that stands nowhere in the column is missed
or_false : (a b : Bool) → (a || b) ≡ false → (a ≡ false) × (b ≡ false)
or_false true b h = (h, cc)
or_false false b h = (refl, h)

made_misses : (k : ℕ) (s : Shape) (l : Plain) → is_made k l ≡ false → Matches l (OfConstructor k s) → IsWild l
made_misses k s Wild h m = tt
made_misses k s (Made j n p) h m =
    elim (eqb_tells j k) [
      | inl y ↦ cc
      | inr y ↦ absurd (y.1 (sym m.0))
    ]
made_misses k s (Fields fs) h m = absurd m
made_misses k s (Valued v p) h m = absurd m

pub absent_misses : (k : ℕ) (s : Shape) (rs : List (List Plain)) → has k rs ≡ false → Misses (OfConstructor k s) rs
absent_misses k s [] h = tt
absent_misses k s (r ∷ rs) h =
    let both = or_false (is_made k (first_of r)) (has k rs) h in
    (made_misses k s (first_of r) both.0, absent_misses k s rs both.1)

and_false : (a b : Bool) → (a && b) ≡ false → (a ≡ false) ⊎ (b ≡ false)
and_false true b h = inr h
and_false false b h = inl refl

pub missing : (n : ℕ) (rs : List (List Plain)) → has_below n rs ≡ false → (k : ℕ) × (k < n) × (has k rs ≡ false)
missing zero rs h = absurd (cc)
missing (suc n) rs h =
    elim (and_false (has n rs) (has_below n rs) h) [
      | inl y ↦ (n, omega arith, y)
      | inr y ↦ let r = missing n rs y in (r.0, omega (arith, r.1), r.2)
    ]

-- no pattern but a wildcard matches `Other`
pub values_miss : (rs : List (List Plain)) → Misses Other rs
values_miss [] = tt
values_miss (r ∷ rs) = (other_misses (first_of r), values_miss rs)
  where
    other_misses : (l : Plain) → Matches l Other → IsWild l
    other_misses Wild m = tt
    other_misses (Made j n p) m = absurd m
    other_misses (Fields fs) m = absurd m
    other_misses (Valued v p) m = absurd m
