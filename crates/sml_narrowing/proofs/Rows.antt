-- Rows and labels as the code goes over them.
use Rattle.std.proofs.Common.{◌≡◌, ℕ, zero, suc, ◌+◌, ◌<◌, ◌≤◌, Bool, true, false, List, [], ◌∷◌, ◌++◌, map, reverse, length, take, drop, get_or, cond, ◌||◌, refl, ap, sym, subst, ◌∙◌, arith}
use Rattle.std.specs.Borrow.{Bor}
use Rattle.std.specs.Global.{Global}
use Rattle.std.specs.Prelude.{Vec}
use Rattle.std.specs.declared.rc.Rc.{Rc}
use Rattle.std.specs.List.{list_any}
use Rattle.std.specs.Str.{bytes_eq}
use Rattle.std.proofs.lemmas.Grind.{take_at_read}
use Rattle.std.proofs.lemmas.List.{reverse-append, map-append, drop_all, drop_more}
use Rattle.std.proofs.lemmas.List.Folds.{list_any-append}
use Rattle.std.proofs.lemmas.Slice.Eq.{bytes_eq-Decides}
use Rattle.std.proofs.lemmas.Bool.Decides.{not_from_Decides}
use Rattle.sml_tree.specs.Trees.{Id}
use Rattle.sml_tree.specs.Views.{ident_of}
use Rattle.sml_narrowing.specs.declared.pattern.Pattern.{Pattern}
use Rattle.sml_narrowing.specs.Plain.{Wild, Row, Empty, Labelled, field}
use Rattle.sml_narrowing.specs.CodeMatrix.{has_label, with_label, with_row}
use Rattle.sml_narrowing.specs.Views.{row_on, plain_of}
use Rattle.sml_narrowing.specs.CodeTasks.{is_among, labels_of}
use Rattle.sml_narrowing.proofs.Fields.{field_here, field_there}

abbrev pub Key : Type 0
Key = Rc (Vec ℕ Global) Global

-- the row of the labels and fields from this index on
abbrev pub row_from : List Key → List Pattern → ℕ → Row
row_from ls fs k = row_on (map ident_of (drop k ls)) (map plain_of (drop k fs)) Empty

no_fields : (ls : List Id) → row_on ls [] Empty ≡ Empty
no_fields [] = refl
no_fields (l ∷ ls) = refl

pub row_ends : (ls : List Key) (fs : List Pattern) (k : ℕ) → length fs ≤ k → row_from ls fs k ≡ Empty
row_ends ls fs k h =
    subst (λ ps. row_on (map ident_of (drop k ls)) (map plain_of ps) Empty ≡ Empty) (sym (drop_all k fs h)) (no_fields (map ident_of (drop k ls)))

pub some_at : {X : Type 0} (xs : List X) (k : ℕ) → k < length xs → (x : X) × (drop k xs ≡ x ∷ drop (suc k) xs)
some_at [] k h = absurd (omega (arith, h))
some_at (x ∷ xs) zero h = (x, refl)
some_at (x ∷ xs) (suc k) h = some_at xs k (omega (arith, h))

drop_at : {X : Type 0} (xs : List X) (k : ℕ) (x : X) → k < length xs → x ≡ get_or xs k x → drop k xs ≡ x ∷ drop (k + 1) xs
drop_at xs k x h e = drop_more xs k x h ∙ ap (λ y. y ∷ drop (k + 1) xs) (sym e)

pub row_goes : (ls : List Key) (fs : List Pattern) (k : ℕ) (l : Key) (p : Pattern) → k < length ls → l ≡ get_or ls k l → drop k fs ≡ p ∷ drop (k + 1) fs → row_from ls fs k ≡ Labelled (ident_of l) (plain_of p) (row_from ls fs (k + 1))
row_goes ls fs k l p h e f =
    ap (λ xs. row_on (map ident_of xs) (map plain_of (drop k fs)) Empty) (drop_at ls k l h e)
    ∙ ap (λ ps. row_on (ident_of l ∷ map ident_of (drop (k + 1) ls)) (map plain_of ps) Empty) f

-- the field at a label, from this index on
pub field_ends : (x : Id) (ls : List Key) (fs : List Pattern) (k : ℕ) → length fs ≤ k → field x (row_from ls fs k) ≡ Wild
field_ends x ls fs k h = ap (field x) (row_ends ls fs k h)

pub field_at : (x : Id) (ls : List Key) (fs : List Pattern) (k : ℕ) (l : Key) (p : Pattern) → k < length ls → l ≡ get_or ls k l → k < length fs → p ≡ get_or fs k p → bytes_eq (ident_of l) x ≡ true → field x (row_from ls fs k) ≡ plain_of p
field_at x ls fs k l p h e i f s =
    ap (field x) (row_goes ls fs k l p h e (drop_at fs k p i f)) ∙ field_here x (ident_of l) (plain_of p) (row_from ls fs (k + 1)) ((bytes_eq-Decides (ident_of l) x).0 s)

pub field_on : (x : Id) (ls : List Key) (fs : List Pattern) (k : ℕ) (l : Key) → k < length ls → l ≡ get_or ls k l → k < length fs → bytes_eq (ident_of l) x ≡ false → field x (row_from ls fs k) ≡ field x (row_from ls fs (k + 1))
field_on x ls fs k l h e i n =
    let s : suc k ≡ k + 1 = omega arith in
    let q = some_at fs k i in
    ap (field x) (row_goes ls fs k l q.0 h e (subst (λ m. drop k fs ≡ q.0 ∷ drop m fs) s q.1)) ∙ field_there x (ident_of l) (plain_of q.0) (row_from ls fs (k + 1)) (not_from_Decides (bytes_eq (ident_of l) x) (bytes_eq-Decides (ident_of l) x) n)

-- the labels, with one more
pub labels_push : (ls : List (Bor Key)) (l : Bor Key) → labels_of (ls ++ l ∷ []) ≡ ident_of l.now ∷ labels_of ls
labels_push ls l =
    ap reverse (map-append (λ (k : Bor Key). ident_of k.now) ls (l ∷ [])) ∙ reverse-append (map (λ (k : Bor Key). ident_of k.now) ls) (ident_of l.now ∷ [])

pub labels_take : (ls : List (Bor Key)) (k : ℕ) (l : Bor Key) → k < length ls → l ≡ get_or ls k l → labels_of (take (k + 1) ls) ≡ ident_of l.now ∷ labels_of (take k ls)
labels_take ls k l h e =
    ap labels_of ((take_at_read ls k l h).1 ∙ ap (λ x. take k ls ++ x ∷ []) (sym e)) ∙ labels_push (take k ls) l

or_last : (a b : Bool) → (a || (b || false)) ≡ (b || a)
or_last true true = refl
or_last true false = refl
or_last false true = refl
or_last false false = refl

reverse_any : (F : Id → Bool) (ls : List Id) → list_any F (reverse ls) ≡ list_any F ls
reverse_any F [] = refl
reverse_any F (l ∷ ls) =
    ap (list_any F) (reverse-append (l ∷ []) ls) ∙ list_any-append F (reverse ls) (l ∷ []) ∙ or_last (list_any F (reverse ls)) (F l) ∙ ap (λ b. F l || b) (reverse_any F ls)

map_any : (x : Id) (ls : List (Bor Key)) → list_any (bytes_eq x) (map (λ (k : Bor Key). ident_of k.now) ls) ≡ is_among x ls
map_any x [] = refl
map_any x (l ∷ ls) = ap (λ b. bytes_eq x (ident_of l.now) || b) (map_any x ls)

among_is : (x : Id) (ls : List (Bor Key)) → has_label (labels_of ls) x ≡ is_among x ls
among_is x ls = reverse_any (bytes_eq x) (map (λ (k : Bor Key). ident_of k.now) ls) ∙ map_any x ls

-- the labels of a row, from this index on
pub labels_end : (old labels : List (Bor Key)) (ls : List Key) (fs : List Pattern) (k : ℕ) → length fs ≤ k → with_row (labels_of old) (row_from ls fs 0) ≡ with_row (labels_of labels) (row_from ls fs k) → labels_of labels ≡ with_row (labels_of old) (row_from ls fs 0)
labels_end old labels ls fs k h i = sym (i ∙ ap (with_row (labels_of labels)) (row_ends ls fs k h))

pub label_on : (labels more : List (Bor Key)) (ls : List Key) (fs : List Pattern) (k : ℕ) (l : Key) → k < length ls → l ≡ get_or ls k l → k < length fs → labels_of more ≡ with_label (labels_of labels) (ident_of l) → with_row (labels_of labels) (row_from ls fs k) ≡ with_row (labels_of more) (row_from ls fs (k + 1))
label_on labels more ls fs k l h e i j =
    let s : suc k ≡ k + 1 = omega arith in
    let q = some_at fs k i in
    ap (with_row (labels_of labels)) (row_goes ls fs k l q.0 h e (subst (λ m. drop k fs ≡ q.0 ∷ drop m fs) s q.1))
    ∙ ap (λ xs. with_row xs (row_from ls fs (k + 1))) (sym j)

pub label_there : (labels : List (Bor Key)) (l : Id) → is_among l labels ≡ true → labels_of labels ≡ with_label (labels_of labels) l
label_there labels l j = sym (ap (λ b. cond b (labels_of labels) (l ∷ labels_of labels)) (among_is l labels ∙ j))

pub label_new : (labels more : List (Bor Key)) (l : Bor Key) → is_among (ident_of l.now) labels ≡ false → more ≡ labels ++ l ∷ [] → labels_of more ≡ with_label (labels_of labels) (ident_of l.now)
label_new labels more l j m =
    ap labels_of m ∙ labels_push labels l ∙ sym (ap (λ b. cond b (labels_of labels) (ident_of l.now ∷ labels_of labels)) (among_is (ident_of l.now) labels ∙ j))
