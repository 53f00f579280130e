-- The pieces of types and of environments, as they are written.
use Rattle.std.proofs.Common.{◌≡◌, ℕ, Bool, true, false, cond, not, nat_lt, ltb, eqb, map, List, [], ◌∷◌, ◌++◌, length, codes, Result, OnOk, refl, ap, sym, ◌∙◌, append_assoc, append-nil, arith}
use Rattle.std.proofs.lemmas.Bool.{lt-ltb, le-ltb, eq-eqb, ne_eqb}
use Rattle.sml_tree.specs.Trees.{Id}
use Rattle.sml_objects.specs.Objects as O
use Rattle.sml_objects.specs.Initial.{Name}
use Rattle.sml_objects.specs.Objects.{types_of}
use Rattle.sml_objects.specs.Views.{row_of, structures_of}
use Rattle.sml_texts.specs.Text.{Piece, a_name, say, variable, joined, bracketed, show_head, levels, show_type, show_types, line, lines, show_env, show_structures}
use Rattle.sml_texts.specs.Spelling.{and_pieces}
use Rattle.sml_texts.proofs.Spelling.{Spelt, then_more, on_ok_then}

-- pieces after pieces
pub also : (t a b : Spelt) (xs ys : List (Piece Name)) → a ≡ and_pieces t xs → b ≡ and_pieces a ys → b ≡ and_pieces t (xs ++ ys)
also t a b xs ys h k = then_more t a b xs ys (xs ++ ys) h k refl

pub ends : {X E : Type 0} (r : Result X E) (t a b : Spelt) (xs ys zs : List (Piece Name)) → a ≡ and_pieces t xs → xs ++ ys ≡ zs → OnOk r (b ≡ and_pieces a ys) → OnOk r (b ≡ and_pieces t zs)
ends r t a b xs ys zs h e k = on_ok_then r _ _ (λ l. then_more t a b xs ys zs h l (sym e)) k

pub only : {X E : Type 0} (r : Result X E) (t b : Spelt) (ys zs : List (Piece Name)) → ys ≡ zs → OnOk r (b ≡ and_pieces t ys) → OnOk r (b ≡ and_pieces t zs)
only r t b ys zs e k = on_ok_then r _ _ (λ l. l ∙ ap (and_pieces t) e) k

abbrev pub opening : Bool → List ℕ → List (Piece Name)
opening b bs = cond b (say bs) []

pub brackets : (b : Bool) (x : List (Piece Name)) → (opening b (codes "(") ++ x) ++ opening b (codes ")") ≡ bracketed b x
unfolding bracketed
brackets true x = append_assoc (say (codes "(")) x (say (codes ")"))
brackets false x = append-nil x

pub bound-pieces : (l k : ℕ) → say (variable k) ≡ show_type {N = Name} l (O.bound k)
unfolding show_type
bound-pieces l k = refl

pub free-pieces : (l k : ℕ) → say (codes "_") ≡ show_type {N = Name} l (O.free k)
unfolding show_type
free-pieces l k = refl

pub arrow-pieces : (l : ℕ) (b : Bool) (t u : O.MlType Name) → b ≡ nat_lt 0 l
    → (((opening b (codes "(") ++ show_type 1 t) ++ say (codes " -> ")) ++ show_type 0 u) ++ opening b (codes ")") ≡ show_type l (O.arrow_of t u)
unfolding show_type show_types show_head levels joined
arrow-pieces l b t u e =
    let o = opening b (codes "(") in
    let p = show_type 1 t in
    let s : List (Piece Name) = say (codes " -> ") in
    let q = show_type 0 u in
    ap (λ x. x ++ opening b (codes ")")) (append_assoc (o ++ p) s q ∙ append_assoc o p (s ++ q))
    ∙ brackets b (p ++ (s ++ q)) ∙ ap (λ b. bracketed b (p ++ (s ++ q))) e

pub unit-pieces : (l : ℕ) (ls : List Id) (ts : List (O.MlType Name)) → ts ≡ [] → say (codes "unit") ≡ show_type l (row_of ls ts)
unfolding show_type show_types show_head levels
unit-pieces l ls ts e = ap (λ ts. show_type l (row_of ls ts)) (sym e)

pub row-pieces : (l : ℕ) (b : Bool) (ls : List Id) (ts : List (O.MlType Name)) → ¬ (ts ≡ []) → b ≡ nat_lt 1 l
    → bracketed b (joined (codes " * ") (show_types 2 2 (types_of ts))) ≡ show_type l (row_of ls ts)
unfolding show_type show_types show_head levels
row-pieces l b ls [] h e = absurd (h refl)
row-pieces l b ls (t ∷ ts) h e = ap (λ b. bracketed b (joined (codes " * ") (show_types 2 2 (types_of (t ∷ ts))))) e

-- whether there are several, and whether there are any
abbrev pub several : {A : Type 0} → List A → Bool
several [] = false
several (x ∷ []) = false
several (x ∷ y ∷ xs) = true

abbrev pub any : {A : Type 0} → List A → Bool
any [] = false
any (x ∷ xs) = true

name-cases : (l : ℕ) (n : Name) (ts : List (O.MlType Name))
    → (bracketed (several ts) (joined (codes ", ") (show_types (cond (several ts) 0 2) (cond (several ts) 0 2) (types_of ts))) ++ opening (any ts) (codes " ")) ++ (a_name n ∷ [])
    ≡ show_type l (O.app (O.name n) (types_of ts))
unfolding show_type show_types show_head levels joined bracketed
name-cases l n [] = refl
name-cases l n (t ∷ []) = append_assoc (show_type 2 t) (say (codes " ")) (a_name n ∷ [])
name-cases l n (t ∷ u ∷ ts) = append_assoc (bracketed true (joined (codes ", ") (show_types 0 0 (types_of (t ∷ u ∷ ts))))) (say (codes " ")) (a_name n ∷ [])

pub name-pieces : (l k : ℕ) (b c : Bool) (n : Name) (ts : List (O.MlType Name)) → b ≡ several ts → k ≡ cond b 0 2 → c ≡ any ts
    → (bracketed b (joined (codes ", ") (show_types k k (types_of ts))) ++ opening c (codes " ")) ++ (a_name n ∷ []) ≡ show_type l (O.app (O.name n) (types_of ts))
name-pieces l k b c n ts e f g =
    let whole = λ (b : Bool) (k : ℕ) (c : Bool). (bracketed b (joined (codes ", ") (show_types k k (types_of ts))) ++ opening c (codes " ")) ++ (a_name n ∷ []) in
    let f' : k ≡ cond (several ts) 0 2 = f ∙ ap (λ b. cond b 0 2) e in
    (λ i. whole (e i) (f' i) (g i)) ∙ name-cases l n ts

pub are_several : {A : Type 0} (xs : List A) (n : ℕ) → n ≡ length xs → ltb 1 n ≡ several xs
are_several [] n e = le-ltb 1 n (omega (arith, e))
are_several (x ∷ []) n e = le-ltb 1 n (omega (arith, e))
are_several (x ∷ y ∷ xs) n e = lt-ltb 1 n (omega (arith, e))

pub are_any : {A : Type 0} (xs : List A) (n : ℕ) → n ≡ length xs → ltb 0 n ≡ any xs
are_any [] n e = le-ltb 0 n (omega (arith, e))
are_any (x ∷ xs) n e = lt-ltb 0 n (omega (arith, e))

pub not_none : {A : Type 0} (xs : List A) (n : ℕ) → n ≡ length xs → not (eqb n 0) ≡ any xs
not_none [] n e = ap not (eq-eqb n 0 e)
not_none (x ∷ xs) n e = ap not (ne_eqb n 0 (λ z. absurd (omega (arith, e, z))))

pub none-mapped : {A B : Type 0} (f : A → B) (xs : List A) → map f xs ≡ [] → xs ≡ []
none-mapped f [] e = refl
none-mapped f (x ∷ xs) e = cc

pub several-map : {A B : Type 0} (f : A → B) (xs : List A) → several xs ≡ several (map f xs)
several-map f [] = refl
several-map f (x ∷ []) = refl
several-map f (x ∷ y ∷ xs) = refl

pub any-map : {A B : Type 0} (f : A → B) (xs : List A) → any xs ≡ any (map f xs)
any-map f [] = refl
any-map f (x ∷ xs) = refl

regroup : (x s j p : List (Piece Name)) → x ++ (s ++ ((j ++ s) ++ p)) ≡ ((x ++ (s ++ j)) ++ s) ++ p
regroup x s j p = simp append_assoc

pub types-push : (b : List ℕ) (k : ℕ) (ts : List (O.MlType Name)) (t : O.MlType Name)
    → joined b (show_types k k (types_of (ts ++ t ∷ []))) ≡ (joined b (show_types k k (types_of ts)) ++ opening (any ts) b) ++ show_type k t
unfolding joined show_types
types-push b k [] t = refl
types-push b k (u ∷ []) t = sym (append_assoc (show_type k u) (say b) (show_type k t))
types-push b k (u ∷ v ∷ ts) t =
    ap (λ j. show_type k u ++ (say b ++ j)) (types-push b k (v ∷ ts) t)
    ∙ regroup (show_type k u) (say b) (joined b (show_types k k (types_of (v ∷ ts)))) (show_type k t)

pub no-types : (b : List ℕ) (k : ℕ) → joined b (show_types {N = Name} k k O.no_type) ≡ []
unfolding joined show_types
no-types b k = refl

pub line-pieces : (w p s : List ℕ) (x : Id × O.Scheme Name) → (say (w ++ (p ++ (x.0 ++ s))) ++ show_type 0 x.1.body) ++ say (codes "\n") ≡ line w p s x
unfolding line
line-pieces w p s x = append_assoc (say (w ++ (p ++ (x.0 ++ s)))) (show_type 0 x.1.body) (say (codes "\n"))

pub lines-push : (w p s : List ℕ) (xs : List (Id × O.Scheme Name)) (x : Id × O.Scheme Name) → lines w p s (xs ++ x ∷ []) ≡ lines w p s xs ++ line w p s x
unfolding lines
lines-push w p s [] x = append-nil (line w p s x)
lines-push w p s (y ∷ xs) x = ap (λ l. line w p s y ++ l) (lines-push w p s xs x) ∙ sym (append_assoc (line w p s y) (lines w p s xs) (line w p s x))

pub no-lines : (w p s : List ℕ) → lines {N = Name} w p s [] ≡ []
unfolding lines
no-lines w p s = refl

pub structures-push : (p : List ℕ) (es : List (Id × O.Env Name)) (s : Id) (E : O.Env Name)
    → show_structures p (structures_of (es ++ (s, E) ∷ [])) ≡ show_structures p (structures_of es) ++ (say (codes "  structure " ++ (p ++ (s ++ codes "\n"))) ++ show_env (p ++ (s ++ codes ".")) E)
unfolding show_structures show_env
structures-push p [] s E = ap (λ l. say (codes "  structure " ++ (p ++ (s ++ codes "\n"))) ++ l) (append-nil (show_env (p ++ (s ++ codes ".")) E))
structures-push p (e ∷ es) s E =
    let head : List (Piece Name) = say (codes "  structure " ++ (p ++ (e.0 ++ codes "\n"))) in
    let inside = show_env (p ++ (e.0 ++ codes ".")) e.1 in
    let last : List (Piece Name) = say (codes "  structure " ++ (p ++ (s ++ codes "\n"))) ++ show_env (p ++ (s ++ codes ".")) E in
    ap (λ l. head ++ (inside ++ l)) (structures-push p es s E)
    ∙ ap (λ l. head ++ l) (sym (append_assoc inside (show_structures p (structures_of es)) last))
    ∙ sym (append_assoc head (inside ++ show_structures p (structures_of es)) last)

pub no-structures : (p : List ℕ) → show_structures {N = Name} p O.no_structure ≡ []
unfolding show_structures
no-structures p = refl

pub env-pieces : (p : List ℕ) (ss : O.Structures Name) (ts vs : List (Id × O.Scheme Name))
    → (show_structures p ss ++ lines (codes "  type ") p (codes " = ") ts) ++ lines (codes "  val ") p (codes " : ") vs ≡ show_env p (O.env ss ts vs)
unfolding show_env
env-pieces p ss ts vs = append_assoc (show_structures p ss) (lines (codes "  type ") p (codes " = ") ts) (lines (codes "  val ") p (codes " : ") vs)
