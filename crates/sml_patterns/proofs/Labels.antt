-- The labels of a column: each once, and those of all its patterns.
use Rattle.std.proofs.Common.{◌≡◌, ℕ, ◌+◌, ◌≤◌, ◌⊎◌, inl, inr, List, [], ◌∷◌, map, length, Bool, true, false, cond, ◌||◌, refl, ap, sym, subst, ◌∙◌, arith}
use Rattle.std.specs.Str.{bytes_eq}
use Rattle.sml_tree.specs.Trees.{Id}
use Rattle.sml_narrowing.specs.Plain.{Plain, Wild, Made, Fields, Valued, Row, Empty, Labelled, field}
use Rattle.sml_narrowing.specs.CodeMatrix.{Head, AtConstructor, AtRow, AtValue, AtOther, field_in, wild_at, first_of, has_label, with_label, with_row, with_plain, with_column, column_labels}
use Rattle.sml_patterns.specs.CodeMatrix.{weight, fields_weight, row_weight}
use Rattle.sml_tree.proofs.Idents.{id_tells}
use Rattle.sml_narrowing.proofs.Fields.{field_here, field_there}

abbrev pub IsIn : Id → List Id → Type 0
IsIn l [] = ⊥
IsIn l (k ∷ ls) = (k ≡ l) ⊎ IsIn l ls

abbrev pub AreDistinct : List Id → Type 0
AreDistinct [] = Unit {0}
AreDistinct (l ∷ ls) = (IsIn l ls → ⊥) × AreDistinct ls

-- each label of the row is there
abbrev pub AreIn : Row → List Id → Type 0
AreIn Empty ls = Unit {0}
AreIn (Labelled l p fs) ls = IsIn l ls × AreIn fs ls

-- the head has the labels of the pattern; of the first column
abbrev pub Sees : Head → Plain → Type 0
Sees (AtConstructor k) p = Unit {0}
Sees (AtRow ls) Wild = Unit {0}
Sees (AtRow ls) (Made k n p) = Unit {0}
Sees (AtRow ls) (Fields fs) = AreIn fs ls
Sees (AtRow ls) (Valued v p) = Unit {0}
Sees (AtValue v) p = Unit {0}
Sees AtOther p = Unit {0}

abbrev pub SeesRows : Head → List (List Plain) → Type 0
SeesRows h [] = Unit {0}
SeesRows h (r ∷ rs) = Sees h (first_of r) × SeesRows h rs

-- the head's labels stand there once
abbrev pub IsGood : Head → Type 0
IsGood (AtConstructor k) = Unit {0}
IsGood (AtRow ls) = AreDistinct ls
IsGood (AtValue v) = Unit {0}
IsGood AtOther = Unit {0}

or_in : (l k : Id) (ls : List Id) → (b : Bool) → (b ≡ true → k ≡ l) → (has_label ls l ≡ true → IsIn l ls) → (b || has_label ls l) ≡ true → IsIn l (k ∷ ls)
or_in l k ls true f g h = inl (f refl)
or_in l k ls false f g h = inr (g h)

same_of : (l k : Id) → bytes_eq l k ≡ true → k ≡ l
same_of l k h =
    elim (id_tells l k) [
      | inl y ↦ sym y.1
      | inr y ↦ absurd (let a = y.0 in cc)
    ]

label_in : (ls : List Id) (l : Id) → has_label ls l ≡ true → IsIn l ls
label_in [] l h = absurd (cc)
label_in (k ∷ ls) l h = or_in l k ls (bytes_eq l k) (same_of l k) (label_in ls l) h

or_out : (a b : Bool) → (a || b) ≡ false → (a ≡ false) × (b ≡ false)
or_out true b h = absurd (cc)
or_out false b h = (refl, h)

label_out : (ls : List Id) (l : Id) → has_label ls l ≡ false → IsIn l ls → ⊥
label_out [] l h i = i
label_out (k ∷ ls) l h (inl e) =
    let o = or_out (bytes_eq l k) (has_label ls l) h in
    elim (id_tells l k) [
      | inl y ↦ let a = y.0 in let b = o.0 in cc
      | inr y ↦ y.1 (sym e)
    ]
label_out (k ∷ ls) l h (inr i) = label_out ls l (or_out (bytes_eq l k) (has_label ls l) h).1 i

-- a label is there or not
decide_at : (ls : List Id) (l : Id) (b : Bool) → has_label ls l ≡ b → IsIn l ls ⊎ (IsIn l ls → ⊥)
decide_at ls l true h = inl (label_in ls l h)
decide_at ls l false h = inr (label_out ls l h)

pub decide : (ls : List Id) (l : Id) → IsIn l ls ⊎ (IsIn l ls → ⊥)
decide ls l = decide_at ls l (has_label ls l) refl

with_at : (P : List Id → Type 0) (ls : List Id) (l : Id) → (IsIn l ls → P ls) → ((IsIn l ls → ⊥) → P (l ∷ ls)) → (b : Bool) → has_label ls l ≡ b → P (cond b ls (l ∷ ls))
with_at P ls l f g true h = f (label_in ls l h)
with_at P ls l f g false h = g (label_out ls l h)

label_distinct : (ls : List Id) (l : Id) → AreDistinct ls → AreDistinct (with_label ls l)
label_distinct ls l d = with_at AreDistinct ls l (λ i. d) (λ n. (n, d)) (has_label ls l) refl

label_keeps : (ls : List Id) (l k : Id) → IsIn k ls → IsIn k (with_label ls l)
label_keeps ls l k i = with_at (IsIn k) ls l (λ j. i) (λ n. inr i) (has_label ls l) refl

label_has : (ls : List Id) (l : Id) → IsIn l (with_label ls l)
label_has ls l = with_at (IsIn l) ls l (λ i. i) (λ n. inl refl) (has_label ls l) refl

label_length : (ls : List Id) (l : Id) → length (with_label ls l) ≤ 1 + length ls
label_length ls l =
    with_at (λ ms. length ms ≤ 1 + length ls) ls l (λ i. omega arith) (λ n. omega arith) (has_label ls l) refl

row_distinct : (ls : List Id) (fs : Row) → AreDistinct ls → AreDistinct (with_row ls fs)
row_distinct ls Empty d = d
row_distinct ls (Labelled l p fs) d = row_distinct (with_label ls l) fs (label_distinct ls l d)

row_keeps : (ls : List Id) (fs : Row) (k : Id) → IsIn k ls → IsIn k (with_row ls fs)
row_keeps ls Empty k i = i
row_keeps ls (Labelled l p fs) k i = row_keeps (with_label ls l) fs k (label_keeps ls l k i)

row_has : (ls : List Id) (fs : Row) → AreIn fs (with_row ls fs)
row_has ls Empty = tt
row_has ls (Labelled l p fs) = (row_keeps (with_label ls l) fs l (label_has ls l), row_has (with_label ls l) fs)

-- how many fields a row has; what a level of a pattern loses at least
abbrev pub count : Row → ℕ
count Empty = 0
count (Labelled l p fs) = 1 + count fs

abbrev pub surplus : Plain → ℕ
surplus Wild = 0
surplus (Made k n p) = 1
surplus (Fields fs) = 1 + count fs
surplus (Valued v p) = 1

abbrev pub rows_surplus : List (List Plain) → ℕ
rows_surplus [] = 0
rows_surplus (r ∷ rs) = surplus (first_of r) + rows_surplus rs

row_length : (ls : List Id) (fs : Row) → length (with_row ls fs) ≤ length ls + count fs
row_length ls Empty = omega arith
row_length ls (Labelled l p fs) = omega (arith, row_length (with_label ls l) fs, label_length ls l)

plain_distinct : (ls : List Id) (p : Plain) → AreDistinct ls → AreDistinct (with_plain ls p)
plain_distinct ls Wild d = d
plain_distinct ls (Made k n p) d = d
plain_distinct ls (Fields fs) d = row_distinct ls fs d
plain_distinct ls (Valued v p) d = d

plain_keeps : (ls : List Id) (p : Plain) (k : Id) → IsIn k ls → IsIn k (with_plain ls p)
plain_keeps ls Wild k i = i
plain_keeps ls (Made j n p) k i = i
plain_keeps ls (Fields fs) k i = row_keeps ls fs k i
plain_keeps ls (Valued v p) k i = i

plain_has : (ls : List Id) (p : Plain) → Sees (AtRow (with_plain ls p)) p
plain_has ls Wild = tt
plain_has ls (Made j n p) = tt
plain_has ls (Fields fs) = row_has ls fs
plain_has ls (Valued v p) = tt

plain_length : (ls : List Id) (p : Plain) → length (with_plain ls p) ≤ length ls + surplus p
plain_length ls Wild = omega arith
plain_length ls (Made k n p) = omega arith
plain_length ls (Fields fs) = omega (arith, row_length ls fs)
plain_length ls (Valued v p) = omega arith

all_keep : (fs : Row) (ls ms : List Id) → ((k : Id) → IsIn k ls → IsIn k ms) → AreIn fs ls → AreIn fs ms
all_keep Empty ls ms f h = tt
all_keep (Labelled l p fs) ls ms f h = (f l h.0, all_keep fs ls ms f h.1)

sees_more : (p : Plain) (ls ms : List Id) → ((k : Id) → IsIn k ls → IsIn k ms) → Sees (AtRow ls) p → Sees (AtRow ms) p
sees_more Wild ls ms f h = tt
sees_more (Made j n p) ls ms f h = tt
sees_more (Fields fs) ls ms f h = all_keep fs ls ms f h
sees_more (Valued v p) ls ms f h = tt

columns_distinct : (ls : List Id) (rs : List (List Plain)) → AreDistinct ls → AreDistinct (with_column ls rs)
columns_distinct ls [] d = d
columns_distinct ls (r ∷ rs) d = columns_distinct (with_plain ls (first_of r)) rs (plain_distinct ls (first_of r) d)

columns_keep : (ls : List Id) (rs : List (List Plain)) (k : Id) → IsIn k ls → IsIn k (with_column ls rs)
columns_keep ls [] k i = i
columns_keep ls (r ∷ rs) k i = columns_keep (with_plain ls (first_of r)) rs k (plain_keeps ls (first_of r) k i)

columns_length : (ls : List Id) (rs : List (List Plain)) → length (with_column ls rs) ≤ length ls + rows_surplus rs
columns_length ls [] = omega arith
columns_length ls (r ∷ rs) =
    omega (arith, columns_length (with_plain ls (first_of r)) rs, plain_length ls (first_of r))

columns_see : (ls : List Id) (rs : List (List Plain)) → SeesRows (AtRow (with_column ls rs)) rs
columns_see ls [] = tt
columns_see ls (r ∷ rs) =
    (sees_more (first_of r) (with_plain ls (first_of r)) (with_column (with_plain ls (first_of r)) rs) (columns_keep (with_plain ls (first_of r)) rs) (plain_has ls (first_of r)), columns_see (with_plain ls (first_of r)) rs)

pub column_distinct : (p : Plain) (rs : List (List Plain)) → AreDistinct (column_labels p rs)
column_distinct p rs = columns_distinct (with_plain [] p) rs (plain_distinct [] p tt)

pub column_sees : (p : Plain) (rs : List (List Plain)) → Sees (AtRow (column_labels p rs)) p
column_sees p rs =
    sees_more p (with_plain [] p) (column_labels p rs) (columns_keep (with_plain [] p) rs) (plain_has [] p)

pub column_sees_rows : (p : Plain) (rs : List (List Plain)) → SeesRows (AtRow (column_labels p rs)) rs
column_sees_rows p rs = columns_see (with_plain [] p) rs

pub fields_length : (fs : Row) (rs : List (List Plain)) → length (column_labels (Fields fs) rs) ≤ count fs + rows_surplus rs
fields_length fs rs = omega (arith, columns_length (with_row [] fs) rs, row_length [] fs)

pub wild_length : (rs : List (List Plain)) → length (column_labels Wild rs) ≤ rows_surplus rs
wild_length rs = omega (arith, columns_length [] rs)

pub field_absent : (l : Id) (ls : List Id) (fs : Row) → AreIn fs ls → (IsIn l ls → ⊥) → field l fs ≡ Wild
field_absent l ls Empty h n = refl
field_absent l ls (Labelled k p fs) h n =
    field_there l k p fs (λ e. n (subst (λ x. IsIn x ls) e h.0)) ∙ field_absent l ls fs h.1 n

-- picking fields makes them no heavier
none_heavier : (k : Id) (p : Plain) (fs : Row) (ls : List Id) → (IsIn k ls → ⊥) → row_weight (map (field_in (Labelled k p fs)) ls) ≡ row_weight (map (field_in fs) ls)
none_heavier k p fs [] n = refl
none_heavier k p fs (l ∷ ls) n =
    omega (arith, ap weight (field_there l k p fs (λ e. n (inl (sym e)))), none_heavier k p fs ls (λ i. n (inr i)))

one_heavier : (k : Id) (p : Plain) (fs : Row) (ls : List Id) → AreDistinct ls → row_weight (map (field_in (Labelled k p fs)) ls) ≤ weight p + row_weight (map (field_in fs) ls)
one_heavier k p fs [] d = omega arith
one_heavier k p fs (l ∷ ls) d =
    elim (id_tells k l) [
      | inl y ↦ omega (arith, ap weight (field_here l k p fs y.1), none_heavier k p fs ls (λ i. d.0 (subst (λ x. IsIn x ls) y.1 i)))
      | inr y ↦ omega (arith, ap weight (field_there l k p fs y.1), one_heavier k p fs ls d.1)
    ]

pub wilds_weight : (ls : List Id) → row_weight (map wild_at ls) ≡ 0
wilds_weight [] = refl
wilds_weight (l ∷ ls) = omega (arith, wilds_weight ls)

empty_weight : (ls : List Id) → row_weight (map (field_in Empty) ls) ≡ 0
empty_weight [] = refl
empty_weight (l ∷ ls) = omega (arith, empty_weight ls)

pub picks_weight : (fs : Row) (ls : List Id) → AreDistinct ls → row_weight (map (field_in fs) ls) + count fs ≤ fields_weight fs
picks_weight Empty ls d = omega (arith, empty_weight ls)
picks_weight (Labelled k p fs) ls d = omega (arith, one_heavier k p fs ls d, picks_weight fs ls d)
