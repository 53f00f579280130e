-- Patterns whose keys in a column differ are apart, so those that a column leaves out aren't near.
use Rattle.std.proofs.Common.{◌≡◌, ℕ, zero, suc, ◌+◌, ◌<◌, length, get_or, arith, Vec, Global, List, [], ◌∷◌, Bool, true, false, Option, Some, None, cond, map, slice_get, refl, ap, sym, subst, ◌∙◌, inl, inr}
use Rattle.std.specs.Prelude.{not, ◌&&◌, ◌==◌, ◌||◌, if◌then◌else◌, IfSome}
use Rattle.std.specs.Option.{option_map}
use Rattle.std.specs.List.{cons_option}
use Rattle.std.specs.Str.{bytes_eq}
use Rattle.std.proofs.lemmas.Bool.{false≢true}
use Rattle.std.proofs.lemmas.Slice.Eq.{bytes_eq-Decides}
use Rattle.std.proofs.lemmas.Bool.Decides.{Decides-int_eq, Decides-eqb}
use Rattle.sml_tree.specs.Trees.{Id}
use Rattle.sml_narrowing.specs.Plain.{Value, value_eq, Plain, Wild, Made, Fields, Valued, Row, Empty, Labelled, field}
use Rattle.sml_patterns.specs.CodeTasks.{outer_apart, rows_apart, is_apart, near}
use Rattle.sml_patterns.specs.CodeColumns.{Key, key_of, value_key, same, key_at, key_in, kept, picked, label_of, Knows, KnowsEach}
use Rattle.sml_patterns.specs.declared.keys.Key as P
use Rattle.sml_patterns.specs.declared.column.Column.{Column}
use Rattle.sml_patterns.proofs.Values.{value_tells}

all_true : (a b c d : Bool) → a ≡ true → b ≡ true → c ≡ true → d ≡ true → (a && (b && (c && d))) ≡ true
all_true true true true true e f g h = refl
all_true false _ _ _ e f g h = absurd cc
all_true true false _ _ e f g h = absurd cc
all_true true true false _ e f g h = absurd cc
all_true true true true false e f g h = absurd cc

same_self : (a : Key) → same a a ≡ true
same_self a =
    all_true _ _ _ _ ((Decides-eqb a.kind a.kind).1 refl) ((Decides-eqb a.number a.number).1 refl) ((Decides-int_eq a.integer a.integer).1 refl) ((bytes_eq-Decides a.text a.text).1 refl)

-- whether both patterns have keys, which differ
abbrev differ : Option Key → Option Key → Bool
differ None b = false
differ (Some a) None = false
differ (Some a) (Some b) = not (same b a)

not_same : (b : Bool) → b ≡ true → not b ≡ true → false ≡ true
not_same true e h = h
not_same false e h = e

values_apart : (v u : Value) → not (same (value_key u) (value_key v)) ≡ true → cond (value_eq u v) false true ≡ true
values_apart v u h = elim (value_tells u v) [
  | inl e ↦ absurd (let f : false ≡ true = not_same (same (value_key u) (value_key v)) (subst (λ x. same (value_key u) (value_key x) ≡ true) e.1 (same_self (value_key u))) h in cc)
  | inr e ↦ ap (λ b. cond b false true) e.0
]

made_apart : (b : Bool) → not (b && true) ≡ true → cond b false true ≡ true
made_apart true h = absurd cc
made_apart false h = refl

outer_by_keys : (p q : Plain) → differ (key_of p) (key_of q) ≡ true → outer_apart p q ≡ true
outer_by_keys Wild q h = absurd (false≢true h)
outer_by_keys (Fields fs) q h = absurd (false≢true h)
outer_by_keys (Made k n p) Wild h = absurd (false≢true h)
outer_by_keys (Made k n p) (Made j m q) h = made_apart (j == k) h
outer_by_keys (Made k n p) (Fields fs) h = absurd (false≢true h)
outer_by_keys (Made k n p) (Valued u q) h = refl
outer_by_keys (Valued v p) Wild h = absurd (false≢true h)
outer_by_keys (Valued v p) (Made j m q) h = refl
outer_by_keys (Valued v p) (Fields fs) h = absurd (false≢true h)
outer_by_keys (Valued v p) (Valued u q) h = values_apart v u h

or_right : (a b : Bool) → b ≡ true → (a || b) ≡ true
or_right true b e = refl
or_right false b e = e

or_left : (a b : Bool) → a ≡ true → (a || b) ≡ true
or_left true b e = refl
or_left false b e = absurd (false≢true e)

-- rows are apart where some label of the first has patterns that are
rows_by_label : (walk fs gs : Row) (l : Id) (a : Key) → key_of (field l walk) ≡ Some a → outer_apart (field l fs) (field l gs) ≡ true → rows_apart walk fs gs ≡ true
rows_by_label Empty fs gs l a e h = absurd (let f : None ≡ Some a = e in cc)
rows_by_label (Labelled k p more) fs gs l a e h = by_test (bytes_eq l k) refl e (λ f. rows_by_label more fs gs l a f h)
  where
    by_test : (b : Bool) → bytes_eq l k ≡ b → key_of (if b then p else field l more) ≡ Some a → (key_of (field l more) ≡ Some a → rows_apart more fs gs ≡ true) → (outer_apart (field k fs) (field k gs) || rows_apart more fs gs) ≡ true
    by_test true t f later = or_left (outer_apart (field k fs) (field k gs)) (rows_apart more fs gs) (subst (λ m. outer_apart (field m fs) (field m gs) ≡ true) ((bytes_eq-Decides l k).0 t) h)
    by_test false t f later = or_right (outer_apart (field k fs) (field k gs)) (rows_apart more fs gs) (later f)

differ_by : (x y : Option Key) (a b : Key) → x ≡ Some a → y ≡ Some b → same b a ≡ false → differ x y ≡ true
differ_by x y a b e f h = ap (λ z. differ z y) e ∙ ap (differ (Some a)) f ∙ ap not h

outer_in : (p q : Plain) (a b : Key) → key_of p ≡ Some a → key_of q ≡ Some b → same b a ≡ false → outer_apart p q ≡ true
outer_in p q a b e f h = outer_by_keys p q (differ_by (key_of p) (key_of q) a b e f h)

apart_outer : (p q : Plain) (a : Key) → key_of p ≡ Some a → outer_apart p q ≡ true → is_apart p q ≡ true
apart_outer Wild q a e h = h
apart_outer (Made k n p) q a e h = h
apart_outer (Valued v p) q a e h = h
apart_outer (Fields fs) q a e h = absurd (let f : None ≡ Some a = e in cc)

-- patterns with different keys in a column are apart
apart_at : (c : Option Id) (p q : Plain) (a b : Key) → key_at c p ≡ Some a → key_at c q ≡ Some b → same b a ≡ false → is_apart p q ≡ true
apart_at None p q a b e f h = apart_outer p q a e (outer_in p q a b e f h)
apart_at (Some l) (Fields fs) (Fields gs) a b e f h = rows_by_label fs fs gs l a e (outer_in (field l fs) (field l gs) a b e f h)
apart_at (Some l) Wild q a b e f h = absurd (let g : None ≡ Some a = e in cc)
apart_at (Some l) (Made k n p) q a b e f h = absurd (let g : None ≡ Some a = e in cc)
apart_at (Some l) (Valued v p) q a b e f h = absurd (let g : None ≡ Some a = e in cc)
apart_at (Some l) (Fields fs) Wild a b e f h = absurd (let g : None ≡ Some b = f in cc)
apart_at (Some l) (Fields fs) (Made k n q) a b e f h = absurd (let g : None ≡ Some b = f in cc)
apart_at (Some l) (Fields fs) (Valued v q) a b e f h = absurd (let g : None ≡ Some b = f in cc)

module _ (c : Option Id) (p : Plain) (a : Key) (e : key_at c p ≡ Some a) (all : List Plain) where
  -- those near are among the ones with this key or none
  near_picked : (n : ℕ) (rest : List Plain) → ((i : ℕ) → slice_get all (n + i) ≡ slice_get rest i) → near p (picked all (kept n (map (key_at c) rest) a)) ≡ near p rest
  near_picked n [] h = refl
  near_picked n (q ∷ rest) h = by_key (near_picked (suc n) rest (λ i. ap (slice_get all) (omega arith) ∙ h (suc i))) (key_at c q) refl
    where
      others : List Plain
      others = picked all (kept (suc n) (map (key_at c) rest) a)

      taken : near p others ≡ near p rest → near p (cons_option (slice_get all n) others) ≡ near p (q ∷ rest)
      taken later =
          ap (λ x. near p (cons_option x others)) (ap (slice_get all) (omega arith) ∙ h zero)
          ∙ ap (λ ps. cond (is_apart p q) ps (q ∷ ps)) later

      by_same : near p others ≡ near p rest → (b : Key) (t : Bool) → key_at c q ≡ Some b → same b a ≡ t → near p (picked all (if t then n ∷ kept (suc n) (map (key_at c) rest) a else kept (suc n) (map (key_at c) rest) a)) ≡ near p (q ∷ rest)
      by_same later b true f t = taken later
      by_same later b false f t = later ∙ ap (λ x. cond x (near p rest) (q ∷ near p rest)) (sym (apart_at c p q a b e f t))

      by_key : near p others ≡ near p rest → (x : Option Key) → key_at c q ≡ x → near p (picked all (kept n (x ∷ map (key_at c) rest) a)) ≡ near p (q ∷ rest)
      by_key later None f = taken later
      by_key later (Some b) f = by_same later b (same b a) f refl

-- the candidates of a column tell all that are near
pub near_candidates : (c : Option Id) (p : Plain) (a : Key) (above : List Plain) (is : List ℕ) → key_at c p ≡ Some a → is ≡ kept 0 (map (key_at c) above) a → near p (picked above is) ≡ near p above
near_candidates c p a above is e f = ap (λ is. near p (picked above is)) f ∙ near_picked c p a e above 0 above (λ i. ap (slice_get above) (omega arith))

-- each column knows the patterns above
pub known_at : (above : List Plain) (columns : List Column) (i : ℕ) (x : Column) → KnowsEach above columns → i < length columns → get_or columns i x ≡ x → Knows above x
known_at above [] i x h w e = absurd (omega (arith, w))
known_at above (y ∷ columns) zero x h w e = subst (Knows above) e h.0
known_at above (y ∷ columns) (suc i) x h w e = known_at above columns i x h.1 (omega (arith, w)) e

pub found_near : (above : List Plain) (column : Column) (p : Plain) (key : P.Key) (noted : Option P.Key) (r : Option (Vec ℕ Global)) → option_map key_in noted ≡ key_at (label_of column) p → noted ≡ Some key
    → IfSome r (λ is. is.items ≡ kept 0 (map (key_at (label_of column)) above) (key_in key)) → IfSome r (λ is. near p (picked above is.items) ≡ near p above)
found_near above column p key noted None e f h = tt
found_near above column p key noted (Some is) e f h = near_candidates (label_of column) p (key_in key) above is.items (sym e ∙ ap (option_map key_in) f) h
