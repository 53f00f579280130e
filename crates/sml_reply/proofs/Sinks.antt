-- What sinks take, step by step.
use Rattle.std.proofs.Common.{◌≡◌, ◌+◌, ◌<◌, ℕ, suc, ◌&&◌, cond, nat_lt, List, [], ◌∷◌, ◌++◌, length, map, get_or, take, drop, Option, Some, None, Result, Ok, Err, refl, ap, sym, subst, ◌∙◌, append_assoc, append-nil, zero-add, zero, ◌-◌, arith}
use Rattle.std.proofs.lemmas.Bool.{lt-ltb, eq-eqb, ne_eqb}
use Rattle.std.proofs.lemmas.List.{take_rest, take_more, map-append}
use Rattle.std.specs.Io.KnownBytes.{Appends, Keeps}
use Rattle.sml_reply.specs.Sinks.{in_turn, Prints, one_more, failures_after}

pub appends_more : (a b d : Option (List ℕ)) (xs ys : List ℕ) → Appends a b xs → Appends b d ys → Appends a d (xs ++ ys)
appends_more None b d xs ys h k = tt
appends_more (Some x) None d xs ys h k = absurd h
appends_more (Some x) (Some y) None xs ys h k = absurd k
appends_more (Some x) (Some y) (Some z) xs ys h k = k ∙ ap (λ t. t ++ ys) h ∙ append_assoc x xs ys

pub appends_nothing : (a b : Option (List ℕ)) → Keeps a b → Appends a b []
appends_nothing None b h = tt
appends_nothing (Some x) None h = absurd h
appends_nothing (Some x) (Some y) h = h ∙ sym (append-nil x)

pub prints_all : {X : Type 0} (E : Type 0) (a b : Option (List ℕ)) (m n : ℕ) (x : X) (text : List ℕ) → Appends a b text → n ≡ m → Prints {E = E} a b m n (Ok x) text
unfolding Prints
prints_all E a b m n x text h e = (h, e)

pub prints_some : {E : Type 0} (X : Type 0) (a b : Option (List ℕ)) (m n : ℕ) (e : E) (text xs ys : List ℕ) → text ≡ xs ++ ys → Appends a b xs → n ≡ one_more m → Prints {X = X} a b m n (Err e) text
unfolding Prints
prints_some X a b m n e text xs ys h k f = (record { beginning = xs; rest = ys; whole = h; taken = k }, f)

pub prints_more : {X E : Type 0} (a b d : Option (List ℕ)) (k m n : ℕ) (r : Result X E) (xs ys zs : List ℕ)
    → Appends a b xs → m ≡ k → Prints b d m n r ys → zs ≡ xs ++ ys → Prints a d k n r zs
unfolding Prints
prints_more a b d k m n (Ok x) xs ys zs h e p f = (subst (Appends a d) (sym f) (appends_more a b d xs ys h p.0), p.1 ∙ e)
prints_more a b d k m n (Err x) xs ys zs h e p f = (
  record {
    beginning = xs ++ p.0.beginning;
    rest = p.0.rest;
    whole = f ∙ ap (λ t. xs ++ t) p.0.whole ∙ sym (append_assoc xs p.0.beginning p.0.rest);
    taken = appends_more a b d xs p.0.beginning h p.0.taken;
  },
  p.1 ∙ ap one_more e,
)

pub prints_then : {X Y E : Type 0} (a b d : Option (List ℕ)) (k m n : ℕ) (x : Y) (r : Result X E) (xs ys zs : List ℕ)
    → Prints {X = Y} {E = E} a b k m (Ok x) xs → Prints b d m n r ys → zs ≡ xs ++ ys → Prints a d k n r zs
unfolding Prints
prints_then a b d k m n x r xs ys zs h p f = prints_more a b d k m n r xs ys zs h.0 h.1 p f

pub prints_stop : {E : Type 0} (X Y : Type 0) (a b : Option (List ℕ)) (m n : ℕ) (e : E) (xs ys zs : List ℕ) → Prints {X = X} a b m n (Err e) xs → zs ≡ xs ++ ys → Prints {X = Y} a b m n (Err e) zs
unfolding Prints
prints_stop X Y a b m n e xs ys zs p f = (
  record {
    beginning = p.0.beginning;
    rest = p.0.rest ++ ys;
    whole = f ∙ ap (λ t. t ++ ys) p.0.whole ∙ append_assoc p.0.beginning p.0.rest ys;
    taken = p.0.taken;
  },
  p.1,
)

take-nil : (k : ℕ) → take {A = ℕ} k [] ≡ []
take-nil zero = refl
take-nil (suc k) = refl

pub take_many : (i k : ℕ) (xs : List ℕ) → take (i + k) xs ≡ take i xs ++ take k (drop i xs)
take_many zero k xs = ap (λ n. take n xs) (zero-add k)
take_many (suc i) k [] = take-nil (suc i + k) ∙ sym (take-nil k)
take_many (suc i) k (x ∷ xs) =
    let e : suc i + k ≡ suc (i + k) = omega arith in
    ap (λ n. take n (x ∷ xs)) e ∙ ap (λ l. x ∷ l) (take_many i k xs)

pub parted : {A : Type 0} (i : ℕ) (xs : List A) → xs ≡ take i xs ++ drop i xs
parted zero xs = refl
parted (suc i) [] = refl
parted (suc i) (x ∷ xs) = ap (λ l. x ∷ l) (parted i xs)

abbrev pub after : ℕ → List ℕ → List ℕ
after i xs = take (length xs - i) (drop i xs)

pub take_both : (i k : ℕ) (xs : List ℕ) → take i xs ++ take k (after i xs) ≡ take (i + k) xs
take_both i k xs = ap (λ l. take i xs ++ take k l) (take_rest xs i) ∙ sym (take_many i k xs)

pub parted_both : (i k : ℕ) (xs : List ℕ) → xs ≡ (take i xs ++ take k (after i xs)) ++ drop k (after i xs)
parted_both i k xs =
    parted i xs ∙ ap (λ l. take i xs ++ l) (sym (take_rest xs i) ∙ parted k (after i xs)) ∙ sym (append_assoc (take i xs) (take k (after i xs)) (drop k (after i xs)))

pub counted_zero : (E : Type 0) (f k : ℕ) (bytes : List ℕ) → f ≡ 0 → 0 < length bytes → failures_after {E = E} k (Ok f) bytes ≡ one_more k
counted_zero E f k bytes e h = λ i. cond (eq-eqb f 0 e i && lt-ltb 0 (length bytes) h i) (one_more k) k

pub counted_some : (E : Type 0) (f k : ℕ) (bytes : List ℕ) → ¬ (f ≡ 0) → failures_after {E = E} k (Ok f) bytes ≡ k
counted_some E f k bytes h = λ i. cond (ne_eqb f 0 h i && nat_lt 0 (length bytes)) (one_more k) k

pub in_turn-append : (xs ys : List (List ℕ)) → in_turn (xs ++ ys) ≡ in_turn xs ++ in_turn ys
in_turn-append [] ys = refl
in_turn-append (x ∷ xs) ys = ap (λ t. x ++ t) (in_turn-append xs ys) ∙ sym (append_assoc x (in_turn xs) (in_turn ys))

pub same_text : {X E : Type 0} (a b : Option (List ℕ)) (m n : ℕ) (r : Result X E) (xs ys : List ℕ) → xs ≡ ys → Prints a b m n r xs → Prints a b m n r ys
same_text a b m n r xs ys e p = subst (Prints a b m n r) e p

pub goes_on : {X : Type 0} (E : Type 0) (a b d : Option (List ℕ)) (k m n : ℕ) (x : X) (xs ys zs : List ℕ)
    → Appends a b xs → m ≡ k → Prints {E = E} b d m n (Ok x) ys → zs ≡ xs ++ ys → Appends a d zs × (n ≡ k)
unfolding Prints
goes_on E a b d k m n x xs ys zs h f p q = prints_more {E = E} a b d k m n (Ok x) xs ys zs h f p q

pub stops : {E : Type 0} (X Y : Type 0) (a b d : Option (List ℕ)) (k m n : ℕ) (e : E) (xs ys rest zs : List ℕ)
    → Appends a b xs → m ≡ k → Prints {X = X} b d m n (Err e) ys → zs ≡ (xs ++ ys) ++ rest → Prints {X = Y} a d k n (Err e) zs
stops X Y a b d k m n e xs ys rest zs h f p q =
    prints_stop X Y a d k n e (xs ++ ys) rest zs (prints_more {X = X} a b d k m n (Err e) xs ys (xs ++ ys) h f p refl) q

pub turn-more : {A : Type 0} (f : A → List ℕ) (xs : List A) (i : ℕ) (d : A) → i < length xs → in_turn (map f (take (i + 1) xs)) ≡ in_turn (map f (take i xs)) ++ f (get_or xs i d)
turn-more f xs i d h =
    ap (λ l. in_turn (map f l)) (take_more xs i d h) ∙ ap in_turn (map-append f (take i xs) (get_or xs i d ∷ []))
    ∙ in_turn-append (map f (take i xs)) (f (get_or xs i d) ∷ []) ∙ ap (λ l. in_turn (map f (take i xs)) ++ l) (append-nil (f (get_or xs i d)))

pub turn-rest : {A : Type 0} (f : A → List ℕ) (xs : List A) (i : ℕ) (d : A) → i < length xs
    → in_turn (map f xs) ≡ (in_turn (map f (take i xs)) ++ f (get_or xs i d)) ++ in_turn (map f (drop (i + 1) xs))
turn-rest f xs i d h =
    ap (λ l. in_turn (map f l)) (parted (i + 1) xs) ∙ ap in_turn (map-append f (take (i + 1) xs) (drop (i + 1) xs))
    ∙ in_turn-append (map f (take (i + 1) xs)) (map f (drop (i + 1) xs)) ∙ ap (λ t. t ++ in_turn (map f (drop (i + 1) xs))) (turn-more f xs i d h)
