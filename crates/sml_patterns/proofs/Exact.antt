-- The search finds exactly what is useful.
use Rattle.std.proofs.Common.{◌≡◌, ◌≢◌, ℕ, zero, suc, ◌<◌, ◌≤◌, ◌⊎◌, inl, inr, List, [], ◌∷◌, ◌++◌, Option, Some, None, Bool, true, false, cond, ◌||◌, refl, ap, sym, subst, arith}
use Rattle.std.specs.List.{list_any}
use Rattle.std.proofs.lemmas.Bool.Decides.{eqb_tells}
use Rattle.sml_tree.specs.Trees.{Id}
use Rattle.sml_narrowing.specs.Plain.{Value, Plain, Wild, Made, Fields, Valued, IsWild}
use Rattle.sml_patterns.specs.Shape.{Shape, Cut, OfConstructor, OfRow, OfValue, Other, Matches, World, Column, Part, PartConstructors, PartLabels, PartValues, PartOpaque, part, IsShape}
use Rattle.sml_narrowing.specs.CodeMatrix.{Head, AtConstructor, AtRow, AtValue, AtOther, replace, onto, narrow, narrow_all, first_kind, has_below, below, column_labels, spread, heads}
use Rattle.sml_patterns.specs.CodeMatrix.{Problem, problem, with_problem, narrowed, solve, problem_weight, is_useful}
use Rattle.sml_patterns.proofs.Labels.{IsGood, Sees, SeesRows, column_distinct}
use Rattle.sml_patterns.proofs.Vectors.{Shapes, End, Then, MatchEach, AreShapes, EscapesAll, Useful, FitEach, wild_matches, some_shape}
use Rattle.sml_patterns.proofs.Narrowing.{FitsPart, fits_part, Suits, under, spare, build, Alike, same_alike, row_alike, shapes_at, are_shapes_at, Kept, IfKept, narrowed_fits}
use Rattle.sml_patterns.proofs.Splitting.{FitRows, rows_fit, other_rows_fit, useful_from, useful_to, Misses, other_escapes_to, other_escapes_from, first_fits, all_wild_misses, absent_misses, missing, values_miss}
use Rattle.sml_patterns.proofs.Weights.{EachHead, heads_see, heads_fall}

abbrev pub InHeads : Head → List Head → Type 0
InHeads h [] = ⊥
InHeads h (k ∷ ks) = (k ≡ h) ⊎ InHeads h ks

each_in : (Q : Head → Type 0) (h : Head) (hs : List Head) → EachHead Q hs → InHeads h hs → Q h
each_in Q h [] e i = absurd i
each_in Q h (k ∷ ks) e (inl y) = subst Q y e.0
each_in Q h (k ∷ ks) e (inr y) = each_in Q h ks e.1 y

-- one of the heads is the shape's
abbrev pub Covered : World → Part → List Head → Shape → Type 0
Covered w P hs s = (h : Head) × InHeads h hs × (u : Shapes) × Alike h s (build w P h u) × AreShapes w (under P h) u

-- the heads are the kind's own, and each shape that the pattern matches has one of them
pub record Splits (w : World) (P : Part) (l : Plain) (hs : List Head) : Type 0 where
  pub suits : EachHead (Suits w P) hs
  pub covers : (s : Shape) → IsShape w P s → Matches l s → Covered w P hs s

-- the one head is `AtOther`, and some shape is matched by wildcards alone
pub record Leaves (w : World) (P : Part) (l : Plain) (rs : List (List Plain)) (hs : List Head) : Type 0 where
  pub wild : IsWild l
  pub only : hs ≡ AtOther ∷ []
  pub shape : Shape
  pub is_shape : IsShape w P shape
  pub misses : Misses shape rs

last_or_less : (n k : ℕ) → k < suc n → (n ≡ k) ⊎ (k < n)
last_or_less n k h =
    elim (eqb_tells n k) [
      | inl y ↦ inl y.1
      | inr y ↦ let ne : n ≢ k = y.1 in inr (omega arith)
    ]

in_below_at : (n k : ℕ) → (k < n → InHeads (AtConstructor k) (below n)) → (n ≡ k) ⊎ (k < n) → InHeads (AtConstructor k) (below (suc n))
in_below_at n k f (inl y) = inl (ap AtConstructor y)
in_below_at n k f (inr y) = inr (f y)

in_below : (n k : ℕ) → k < n → InHeads (AtConstructor k) (below n)
in_below zero k h = absurd (omega arith)
in_below (suc n) k h = in_below_at n k (in_below n k) (last_or_less n k h)

below_suits : (w : World) (m : ℕ) (f : ℕ → Column) (n : ℕ) → n ≤ m → EachHead (Suits w (PartConstructors m f)) (below n)
below_suits w m f zero h = tt
below_suits w m f (suc n) h = (omega arith, below_suits w m f n (omega arith))

made_covers : (w : World) (n : ℕ) (f : ℕ → Column) (j : ℕ) (p : Plain) (k : ℕ) (s : Shape) → IsShape w (PartConstructors n f) s → Matches (Made j k p) s → Covered w (PartConstructors n f) (AtConstructor j ∷ []) s
made_covers w n f j p k Cut h m = absurd m
made_covers w n f j p k (OfConstructor i s) h m =
    (AtConstructor j, inl refl, Then s End, same_alike (AtConstructor j) (OfConstructor i s) (OfConstructor j s) (ap (λ t. OfConstructor t s) m.0), (subst (λ t. IsShape w (part w (f t)) s) m.0 h.1, tt))
made_covers w n f j p k (OfRow g) h m = absurd m
made_covers w n f j p k (OfValue v s) h m = absurd m
made_covers w n f j p k Other h m = absurd m

row_covers : (w : World) (f : Id → Column) (ls : List Id) (s : Shape) → IsShape w (PartLabels f) s → Covered w (PartLabels f) (AtRow ls ∷ []) s
row_covers w f ls Cut h = absurd h
row_covers w f ls (OfConstructor i s) h = absurd h
row_covers w f ls (OfRow g) h =
    (AtRow ls, inl refl, shapes_at g ls, row_alike ls g (spare w (PartLabels f)), are_shapes_at w f g h ls)
row_covers w f ls (OfValue v s) h = absurd h
row_covers w f ls Other h = absurd h

value_covers : (w : World) (f : Value → Column) (v : Value) (p : Plain) (s : Shape) → IsShape w (PartValues f) s → Matches (Valued v p) s → Covered w (PartValues f) (AtValue v ∷ []) s
value_covers w f v p Cut h m = absurd m
value_covers w f v p (OfConstructor i s) h m = absurd m
value_covers w f v p (OfRow g) h m = absurd m
value_covers w f v p (OfValue i s) h m =
    (AtValue v, inl refl, Then s End, same_alike (AtValue v) (OfValue i s) (OfValue v s) (ap (λ t. OfValue t s) m.0), (subst (λ t. IsShape w (part w (f t)) s) m.0 h.1, tt))
value_covers w f v p Other h m = absurd m

below_covers : (w : World) (n : ℕ) (f : ℕ → Column) (m : ℕ) → m ≡ n → 0 < n → (s : Shape) → IsShape w (PartConstructors n f) s → Covered w (PartConstructors n f) (below m) s
below_covers w n f m e g Cut h = absurd (omega arith)
below_covers w n f m e g (OfConstructor i s) h =
    (AtConstructor i, in_below m i (omega (arith, h.0)), Then s End, same_alike (AtConstructor i) (OfConstructor i s) (OfConstructor i s) refl, (h.1, tt))
below_covers w n f m e g (OfRow r) h = absurd h
below_covers w n f m e g (OfValue v s) h = absurd h
below_covers w n f m e g Other h = absurd h

module _ (w : World) (rs : List (List Plain)) where
  made_spreads : (n : ℕ) (f : ℕ → Column) (m : ℕ) → m ≡ n → 0 < n → (b : Bool) → has_below m rs ≡ b → Splits w (PartConstructors n f) Wild (cond b (below m) (AtOther ∷ [])) ⊎ Leaves w (PartConstructors n f) Wild rs (cond b (below m) (AtOther ∷ []))
  made_spreads n f m e g true i =
      inl (record { suits = below_suits w n f m (omega arith); covers = λ s h k. below_covers w n f m e g s h })
  made_spreads n f m e g false i =
      let k = missing m rs i in
      let s = some_shape w (f k.0).depth (f k.0).type in
      inr (record { wild = tt; only = refl; shape = OfConstructor k.0 s.0; is_shape = (omega (arith, k.1), s.1); misses = absent_misses k.0 s.0 rs k.2 })

  spread_at : (P : Part) → (s : Shape) × IsShape w P s → (l : Plain) → first_kind rs ≡ l → FitsPart w P l → Splits w P Wild (spread l rs) ⊎ Leaves w P Wild rs (spread l rs)
  spread_at P s Wild i h =
      inr (record { wild = tt; only = refl; shape = s.0; is_shape = s.1; misses = all_wild_misses s.0 rs i })
  spread_at (PartConstructors n f) s (Made k m p) i h = made_spreads n f m h.0 (omega (arith, h.1)) (has_below m rs) refl
  spread_at (PartConstructors n f) s (Fields fs) i h = absurd h
  spread_at (PartConstructors n f) s (Valued v p) i h = absurd h
  spread_at (PartLabels f) s (Made k m p) i h = absurd h
  spread_at (PartLabels f) s (Fields fs) i h =
      inl (record { suits = (column_distinct Wild rs, tt); covers = λ t x y. row_covers w f (column_labels Wild rs) t x })
  spread_at (PartLabels f) s (Valued v p) i h = absurd h
  spread_at (PartValues f) s (Made k m p) i h = absurd h
  spread_at (PartValues f) s (Fields fs) i h = absurd h
  spread_at (PartValues f) s (Valued v p) i h =
      inr (record { wild = tt; only = refl; shape = Other; is_shape = tt; misses = values_miss rs })
  spread_at PartOpaque s (Made k m p) i h = absurd h
  spread_at PartOpaque s (Fields fs) i h = absurd h
  spread_at PartOpaque s (Valued v p) i h = absurd h

  pub heads_split : (P : Part) → (s : Shape) × IsShape w P s → (l : Plain) → FitsPart w P l → FitsPart w P (first_kind rs) → Splits w P l (heads l rs) ⊎ Leaves w P l rs (heads l rs)
  heads_split P s Wild h k = spread_at P s (first_kind rs) refl k
  heads_split (PartConstructors n f) s (Made j m p) h k =
      inl (record { suits = (h.1, tt); covers = λ t x y. made_covers w n f j p m t x y })
  heads_split (PartConstructors n f) s (Fields fs) h k = absurd h
  heads_split (PartConstructors n f) s (Valued v p) h k = absurd h
  heads_split (PartLabels f) s (Made j m p) h k = absurd h
  heads_split (PartLabels f) s (Fields fs) h k =
      inl (record { suits = (column_distinct (Fields fs) rs, tt); covers = λ t x y. row_covers w f (column_labels (Fields fs) rs) t x })
  heads_split (PartLabels f) s (Valued v p) h k = absurd h
  heads_split (PartValues f) s (Made j m p) h k = absurd h
  heads_split (PartValues f) s (Fields fs) h k = absurd h
  heads_split (PartValues f) s (Valued v p) h k =
      inl (record { suits = (h.0, tt); covers = λ t x y. value_covers w f v p t x y })
  heads_split PartOpaque s (Made j m p) h k = absurd h
  heads_split PartOpaque s (Fields fs) h k = absurd h
  heads_split PartOpaque s (Valued v p) h k = absurd h

or_true : (a b : Bool) → (a || b) ≡ true → (a ≡ true) ⊎ (b ≡ true)
or_true true b h = inl refl
or_true false b h = inr h

or_left : (a b : Bool) → a ≡ true → (a || b) ≡ true
or_left true b h = refl
or_left false b h = absurd (cc)

or_right : (a b : Bool) → b ≡ true → (a || b) ≡ true
or_right true b h = refl
or_right false b h = h

kept_at : (Q : List Plain → Type 0) (o : Option (List Plain)) (t : List Plain) → o ≡ Some t → Q t → Kept Q o
kept_at Q o t e h = subst (Kept Q) (sym e) h

if_kept_at : (Q : List Plain → Type 0) (o : Option (List Plain)) (t : List Plain) → o ≡ Some t → IfKept Q o → Q t
if_kept_at Q o t e h = subst (IfKept Q) e h

kept_three : (A B C D : List Plain → Type 0) → ((t : List Plain) → A t → B t → C t → D t) → (o : Option (List Plain)) → IfKept A o → IfKept B o → Kept C o → Kept D o
kept_three A B C D m None x y z = absurd z
kept_three A B C D m (Some t) x y z = m t x y z

module _ (w : World) where
  abbrev pub Sound : ℕ → Type 0
  Sound f = (rs : List (List Plain)) (q : List Plain) (cs : List Column) → FitRows w cs rs → FitEach w cs q → solve f (problem rs q) ≡ true → Useful w cs rs q

  abbrev pub Complete : ℕ → Type 0
  Complete f = (rs : List (List Plain)) (q : List Plain) (cs : List Column) → FitRows w cs rs → FitEach w cs q → problem_weight (problem rs q) < f → Useful w cs rs q → solve f (problem rs q) ≡ true

  module _ (f : ℕ) (c : Column) (cs : List Column) (rs : List (List Plain)) (fr : FitRows w (c ∷ cs) rs) (p : Plain) (q : List Plain) (fq : FitEach w (c ∷ cs) (p ∷ q)) where
    narrowed_question_fits : (h : Head) → Suits w (part w c) h → IfKept (FitEach w (under (part w c) h ++ cs)) (narrow h (p ∷ q))
    narrowed_question_fits h s = narrowed_fits w q cs (part w c) h p s (fits_part w c.depth c.type p fq.0) fq.1

    sound_one : Sound f → (h : Head) → Suits w (part w c) h → Sees h p → (hs : List Head) → (list_any (solve f) (narrowed rs (p ∷ q) hs) ≡ true → Useful w (c ∷ cs) rs (p ∷ q)) → (o : Option (List Plain)) → narrow h (p ∷ q) ≡ o → list_any (solve f) (with_problem (narrow_all h rs) o (narrowed rs (p ∷ q) hs)) ≡ true → Useful w (c ∷ cs) rs (p ∷ q)
    sound_one ih h s e hs rest None i t = rest t
    sound_one ih h s e hs rest (Some r) i t =
        elim (or_true (solve f (problem (narrow_all h rs) r)) (list_any (solve f) (narrowed rs (p ∷ q) hs)) t) [
          | inl y ↦ useful_from w c cs h s rs fr p q e fq (kept_at (λ x. Useful w (under (part w c) h ++ cs) (narrow_all h rs) x) (narrow h (p ∷ q)) r i (ih (narrow_all h rs) r (under (part w c) h ++ cs) (rows_fit w c cs h s rs fr) (if_kept_at (FitEach w (under (part w c) h ++ cs)) (narrow h (p ∷ q)) r i (narrowed_question_fits h s)) y))
          | inr y ↦ rest y
        ]

    sound_any : Sound f → (hs : List Head) → EachHead (Suits w (part w c)) hs → EachHead (λ h. IsGood h × Sees h p × SeesRows h rs) hs → list_any (solve f) (narrowed rs (p ∷ q) hs) ≡ true → Useful w (c ∷ cs) rs (p ∷ q)
    sound_any ih [] s e t = absurd (cc)
    sound_any ih (h ∷ hs) s e t = sound_one ih h s.0 e.0.1 hs (sound_any ih hs s.1 e.1) (narrow h (p ∷ q)) refl t

    any_at : (h : Head) (o : Option (List Plain)) (xs : List Problem) → Kept (λ t. solve f (problem (narrow_all h rs) t) ≡ true) o → list_any (solve f) (with_problem (narrow_all h rs) o xs) ≡ true
    any_at h None xs k = absurd k
    any_at h (Some t) xs k = or_left (solve f (problem (narrow_all h rs) t)) (list_any (solve f) xs) k

    any_later : (h : Head) (o : Option (List Plain)) (xs : List Problem) → list_any (solve f) xs ≡ true → list_any (solve f) (with_problem (narrow_all h rs) o xs) ≡ true
    any_later h None xs k = k
    any_later h (Some t) xs k = or_right (solve f (problem (narrow_all h rs) t)) (list_any (solve f) xs) k

    any_in : (h : Head) (hs : List Head) → InHeads h hs → Kept (λ t. solve f (problem (narrow_all h rs) t) ≡ true) (narrow h (p ∷ q)) → list_any (solve f) (narrowed rs (p ∷ q) hs) ≡ true
    any_in h [] i k = absurd i
    any_in h (g ∷ hs) (inl y) k =
        any_at g (narrow g (p ∷ q)) (narrowed rs (p ∷ q) hs) (subst (λ x. Kept (λ t. solve f (problem (narrow_all x rs) t) ≡ true) (narrow x (p ∷ q))) (sym y) k)
    any_in h (g ∷ hs) (inr y) k = any_later g (narrow g (p ∷ q)) (narrowed rs (p ∷ q) hs) (any_in h hs y k)

    -- the case where the first column is left out
    other_from : (l : Plain) → IsWild l → Matches l Cut → Kept (λ t. Unit {0}) (onto q (replace AtOther l))
    other_from Wild h m = tt
    other_from (Made k n r) h m = absurd h
    other_from (Fields fs) h m = absurd h
    other_from (Valued v p) h m = absurd h

    wild_narrow : (l : Plain) → IsWild l → onto q (replace AtOther l) ≡ Some q
    wild_narrow Wild h = refl
    wild_narrow (Made k n r) h = absurd h
    wild_narrow (Fields fs) h = absurd h
    wild_narrow (Valued v p) h = absurd h

    leaves_sound : Sound f → Leaves w (part w c) p rs (heads p rs) → list_any (solve f) (narrowed rs (p ∷ q) (heads p rs)) ≡ true → Useful w (c ∷ cs) rs (p ∷ q)
    leaves_sound ih v t =
        let one = subst (λ hs. list_any (solve f) (narrowed rs (p ∷ q) hs) ≡ true) v.only t in
        let two = subst (λ o. list_any (solve f) (with_problem (narrow_all AtOther rs) o []) ≡ true) (wild_narrow p v.wild) one in
        elim (or_true (solve f (problem (narrow_all AtOther rs) q)) false two) [
          | inl y ↦ let u = ih (narrow_all AtOther rs) q cs (other_rows_fit w c cs rs fr) fq.1 y in (Then v.shape u.0, (v.is_shape, u.1), (wild_matches p v.shape v.wild, u.2), other_escapes_from v.shape u.0 rs v.misses u.3)
          | inr y ↦ absurd (cc)
        ]

    falls_at : (h : Head) → InHeads h (heads p rs) → IfKept (λ t. problem_weight (problem (narrow_all h rs) t) < problem_weight (problem rs (p ∷ q))) (narrow h (p ∷ q))
    falls_at h i =
        each_in (λ g. IfKept (λ t. problem_weight (problem (narrow_all g rs) t) < problem_weight (problem rs (p ∷ q))) (narrow g (p ∷ q))) h (heads p rs) (heads_fall rs q p) i

    leaves_complete : Complete f → problem_weight (problem rs (p ∷ q)) < suc f → Leaves w (part w c) p rs (heads p rs) → (s : Shape) (x : Shapes) → AreShapes w cs x → MatchEach q x → EscapesAll rs (Then s x) → list_any (solve f) (narrowed rs (p ∷ q) (heads p rs)) ≡ true
    leaves_complete ih b v s x k m n =
        let i : InHeads AtOther (heads p rs) = subst (InHeads AtOther) (sym v.only) (inl refl) in
        let o = wild_narrow p v.wild in
        let less = if_kept_at (λ t. problem_weight (problem (narrow_all AtOther rs) t) < problem_weight (problem rs (p ∷ q))) (narrow AtOther (p ∷ q)) q o (falls_at AtOther i) in
        any_in AtOther (heads p rs) i (kept_at (λ t. solve f (problem (narrow_all AtOther rs) t) ≡ true) (narrow AtOther (p ∷ q)) q o (ih (narrow_all AtOther rs) q cs (other_rows_fit w c cs rs fr) fq.1 (omega (arith, less, b)) (x, k, m, other_escapes_to s x rs n)))

    splits_complete : Complete f → problem_weight (problem rs (p ∷ q)) < suc f → Splits w (part w c) p (heads p rs) → (s : Shape) (x : Shapes) → IsShape w (part w c) s → AreShapes w cs x → Matches p s → MatchEach q x → EscapesAll rs (Then s x) → list_any (solve f) (narrowed rs (p ∷ q) (heads p rs)) ≡ true
    splits_complete ih b v s x is k m n o =
        let d = v.covers s is m in
        let h = d.0 in
        let suit = each_in (Suits w (part w c)) h (heads p rs) v.suits d.1 in
        let sees = each_in (λ g. IsGood g × Sees g p × SeesRows g rs) h (heads p rs) (heads_see p rs) d.1 in
        any_in h (heads p rs) d.1 (kept_three (FitEach w (under (part w c) h ++ cs)) (λ t. problem_weight (problem (narrow_all h rs) t) < problem_weight (problem rs (p ∷ q))) (λ t. Useful w (under (part w c) h ++ cs) (narrow_all h rs) t) (λ t. solve f (problem (narrow_all h rs) t) ≡ true) (λ t fits less u. ih (narrow_all h rs) t (under (part w c) h ++ cs) (rows_fit w c cs h suit rs fr) fits (omega (arith, less, b)) u) (narrow h (p ∷ q)) (narrowed_question_fits h suit) (falls_at h d.1) (useful_to w c cs h suit rs sees.2 fr p q sees.1 fq s d.2 x d.3 d.4 k (m, n) o))

    step_sound : Sound f → list_any (solve f) (narrowed rs (p ∷ q) (heads p rs)) ≡ true → Useful w (c ∷ cs) rs (p ∷ q)
    step_sound ih t =
        elim (heads_split w rs (part w c) (some_shape w c.depth c.type) p (fits_part w c.depth c.type p fq.0) (first_fits w c cs rs fr)) [
          | inl y ↦ sound_any ih (heads p rs) y.suits (heads_see p rs) t
          | inr y ↦ leaves_sound ih y t
        ]

    step_complete : Complete f → problem_weight (problem rs (p ∷ q)) < suc f → (s : Shape) (x : Shapes) → IsShape w (part w c) s → AreShapes w cs x → Matches p s → MatchEach q x → EscapesAll rs (Then s x) → list_any (solve f) (narrowed rs (p ∷ q) (heads p rs)) ≡ true
    step_complete ih b s x is k m n o =
        elim (heads_split w rs (part w c) (some_shape w c.depth c.type) p (fits_part w c.depth c.type p fq.0) (first_fits w c cs rs fr)) [
          | inl y ↦ splits_complete ih b y s x is k m n o
          | inr y ↦ leaves_complete ih b y s x k n o
        ]

  pub sound : (f : ℕ) → Sound f
  sound zero rs q cs fr fq t = absurd (cc)
  sound (suc f) [] [] [] fr fq t = (End, tt, tt, tt)
  sound (suc f) (r ∷ rs) [] [] fr fq t = absurd (cc)
  sound (suc f) rs [] (c ∷ cs) fr fq t = absurd fq
  sound (suc f) rs (p ∷ q) [] fr fq t = absurd fq
  sound (suc f) rs (p ∷ q) (c ∷ cs) fr fq t = step_sound f c cs rs fr p q fq (sound f) t

  pub complete : (f : ℕ) → Complete f
  complete zero rs q cs fr fq b u = absurd (omega arith)
  complete (suc f) [] [] [] fr fq b u = refl
  complete (suc f) ([] ∷ rs) [] [] fr fq b (End, k, m, n) = absurd (n.0 tt)
  complete (suc f) ([] ∷ rs) [] [] fr fq b (Then s x, k, m, n) = absurd k
  complete (suc f) ((p ∷ r) ∷ rs) [] [] fr fq b u = absurd fr.0
  complete (suc f) rs [] (c ∷ cs) fr fq b u = absurd fq
  complete (suc f) rs (p ∷ q) [] fr fq b u = absurd fq
  complete (suc f) rs (p ∷ q) (c ∷ cs) fr fq b (End, k, m, n) = absurd k
  complete (suc f) rs (p ∷ q) (c ∷ cs) fr fq b (Then s x, k, m, n) =
      step_complete f c cs rs fr p q fq (complete f) b s x k.0 k.1 m.0 m.1 n

-- the search answers yes exactly where some shapes match the question and escape the rows
pub useful_sound : (w : World) (cs : List Column) (rs : List (List Plain)) (q : List Plain) → FitRows w cs rs → FitEach w cs q → is_useful rs q ≡ true → Useful w cs rs q
useful_sound w cs rs q fr fq t = sound w (suc (problem_weight (problem rs q))) rs q cs fr fq t

pub useful_complete : (w : World) (cs : List Column) (rs : List (List Plain)) (q : List Plain) → FitRows w cs rs → FitEach w cs q → Useful w cs rs q → is_useful rs q ≡ true
useful_complete w cs rs q fr fq u =
    complete w (suc (problem_weight (problem rs q))) rs q cs fr fq (omega arith) u
