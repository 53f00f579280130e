-- The parts of a long identifier, one after another.
use Rattle.std.proofs.Common.{◌≡◌, ℕ, ◌-◌, map, append_assoc, append-nil, length-drop, ◌+◌, ◌<◌, ◌≤◌, List, [], ◌∷◌, ◌++◌, Bool, true, false, Some, None, length, take, drop, refl, sym, ap, ◌∙◌, eqb, ltb, arith}
use Rattle.std.specs.Prelude.{position, not}
use Rattle.std.specs.List.{slice_split, position_or_len, onto_first}
use Rattle.std.proofs.lemmas.Bool.{cond-true, cond-false, ltb-true, ltb-false}
use Rattle.std.proofs.lemmas.List.Splits.{slice_split_first, slice_split-cons_no, length-slice_split}
use Rattle.std.proofs.lemmas.List.{take_all}
use Rattle.sml_tree.specs.Trees.{Id, LongId}
use Rattle.sml_reach.specs.Idents.{long_of_parts, long_id}

-- a long identifier, after some structures
abbrev pub after : List Id → LongId → LongId
after path long = record { path = path ++ long.path; last = long.last }

abbrev is_dot : ℕ → Bool
is_dot b = eqb b 46

some_same : {A : Type 0} {x y : A} → Some x ≡ Some y → x ≡ y
some_same e = cc

none_some : {A : Type 0} {x : A} → None ≡ Some x → ⊥
none_some e = cc

-- the first dot, if there is one
found_at : (xs : List ℕ) (i : ℕ) → Some i ≡ position is_dot xs → (position_or_len is_dot xs < length xs) × (i ≡ position_or_len is_dot xs)
found_at xs i e = by_test (ltb (position_or_len is_dot xs) (length xs)) refl
  where
    by_test : (b : Bool) → ltb (position_or_len is_dot xs) (length xs) ≡ b → (position_or_len is_dot xs < length xs) × (i ≡ position_or_len is_dot xs)
    by_test true q = (ltb-true _ _ q, some_same (e ∙ cond-true _ _ _ q))
    by_test false q = absurd (none_some (sym (e ∙ cond-false _ _ _ q)))

not_found : (xs : List ℕ) → None ≡ position is_dot xs → length xs ≤ position_or_len is_dot xs
not_found xs e = by_test (ltb (position_or_len is_dot xs) (length xs)) refl
  where
    by_test : (b : Bool) → ltb (position_or_len is_dot xs) (length xs) ≡ b → length xs ≤ position_or_len is_dot xs
    by_test true q = absurd (none_some (e ∙ cond-true _ _ _ q))
    by_test false q = ltb-false _ _ q

undivided : (xs : List ℕ) → length xs ≤ position_or_len is_dot xs → slice_split is_dot xs ≡ xs ∷ []
undivided [] h = refl
undivided (x ∷ xs) h = by_test (is_dot x) refl (undivided xs)
  where
    by_test : (b : Bool) → is_dot x ≡ b → (length xs ≤ position_or_len is_dot xs → slice_split is_dot xs ≡ xs ∷ []) → slice_split is_dot (x ∷ xs) ≡ (x ∷ xs) ∷ []
    by_test true q r =
        let z : position_or_len is_dot (x ∷ xs) ≡ 0 = cond-false _ _ _ (ap not q) in
        absurd (omega (arith, h, z))
    by_test false q r =
        let z : position_or_len is_dot (x ∷ xs) ≡ 1 + position_or_len is_dot xs = cond-true _ _ _ (ap not q) in
        slice_split-cons_no is_dot x xs q ∙ ap (onto_first x) (r (omega (arith, h, z)))

after_more : (first : Id) (parts : List Id) → 0 < length parts → long_of_parts (first ∷ parts) ≡ after (first ∷ []) (long_of_parts parts)
after_more first [] h = absurd (omega (arith, h))
after_more first (second ∷ parts) h = refl

pub long_id_more : (xs : List ℕ) (i : ℕ) → Some i ≡ position is_dot xs → long_id xs ≡ after (take i xs ∷ []) (long_id (drop (i + 1) xs))
long_id_more xs i e =
    let f = found_at xs i e in
    ap long_of_parts (slice_split_first is_dot xs 0 f.0)
    ∙ ap (λ k. long_of_parts (take k xs ∷ slice_split is_dot (drop (k + 1) xs))) (sym f.1)
    ∙ after_more (take i xs) (slice_split is_dot (drop (i + 1) xs)) (omega (arith, length-slice_split is_dot (drop (i + 1) xs)))

pub long_id_last : (xs : List ℕ) → None ≡ position is_dot xs → long_id xs ≡ record { path = []; last = xs }
long_id_last xs e = ap long_of_parts (undivided xs (not_found xs e))

map_more : {A B : Type 0} (f : A → B) (xs : List A) (x : A) → map f (xs ++ x ∷ []) ≡ map f xs ++ f x ∷ []
map_more f [] x = refl
map_more f (y ∷ ys) x = ap (λ z. f y ∷ z) (map_more f ys x)

pub cut_more : {A : Type 0} (f : A → Id) (old new : List A) (x : A) (text rest : List ℕ) (i : ℕ) → long_id text ≡ after (map f old) (long_id rest) → Some i ≡ position is_dot rest → f x ≡ take i rest → new ≡ old ++ x ∷ [] → long_id text ≡ after (map f new) (long_id (take (length rest - (i + 1)) (drop (i + 1) rest)))
cut_more f old new x text rest i h e g n =
    let path : map f new ≡ map f old ++ take i rest ∷ [] = ap (map f) n ∙ map_more f old x ∙ ap (λ y. map f old ++ y ∷ []) g in
    let full : length (drop (i + 1) rest) ≤ length rest - (i + 1) = omega (arith, length-drop (i + 1) rest) in
    h ∙ ap (after (map f old)) (long_id_more rest i e)
    ∙ ap (λ p. record { path = p; last = (long_id (drop (i + 1) rest)).last }) (sym (append_assoc (map f old) (take i rest ∷ []) (long_id (drop (i + 1) rest)).path))
    ∙ ap (λ p. after p (long_id (drop (i + 1) rest))) (sym path)
    ∙ ap (λ r. after (map f new) (long_id r)) (sym (take_all (length rest - (i + 1)) (drop (i + 1) rest) full))

pub cut_all : (path : List Id) (text rest last : List ℕ) → long_id text ≡ after path (long_id rest) → None ≡ position is_dot rest → last ≡ rest → record { path = path; last = last } ≡ long_id text
cut_all path text rest last h e g =
    ap (λ x. record { path = path; last = x }) g ∙ ap (λ p. record { path = p; last = rest }) (sym (append-nil path))
    ∙ ap (after path) (sym (long_id_last rest e)) ∙ sym h
