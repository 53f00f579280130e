-- Texts that grow by pieces.
use Rattle.std.proofs.Common.{◌≡◌, ◌+◌, ℕ, suc, Bool, true, false, not, cond, nat_eq, List, [], ◌∷◌, ◌++◌, length, map, Some, None, Result, Ok, Err, OnOk, if◌then◌else◌, refl, ap, sym, ◌∙◌, append_assoc, append-nil, arith}
use Rattle.std.proofs.lemmas.Bool.{ne_eqb}
use lib.Dec.{eqb-suc-suc}
use Rattle.std.specs.List.{list_any, position_or_len}
use Rattle.sml_objects.specs.Names as N
use Rattle.sml_objects.specs.Names.{int, word, char, string, bool, exn, real, list, ref}
use Rattle.sml_objects.specs.Initial.{Name, initial, made, naming}
use Rattle.sml_objects.specs.Appearance.{stands}
use Rattle.sml_objects.specs.Canonical.{index_of}
use Rattle.sml_objects.specs.Views.{name_of}
use Rattle.sml_objects.specs.declared.objects.TyName.{TyName}
use Rattle.sml_objects.proofs.NameTests.{eq, eq-is, inserted}
use Rattle.sml_texts.specs.Text.{Piece, byte, a_name, say, spell, spell_new, initial_among, initial_text}
use Rattle.sml_texts.specs.Spelling.{seen_after, and_pieces}

abbrev pub Spelt : Type 0
Spelt = List ℕ × List Name

abbrev pub all_initial : List N.Initial
all_initial = int ∷ word ∷ char ∷ string ∷ bool ∷ exn ∷ real ∷ list ∷ ref ∷ []

abbrev next_seen : Name → List Name → List Name
next_seen n s = cond (nat_eq (index_of naming n s) (length s)) (s ++ n ∷ []) s

spell-append : (s : List Name) (ps qs : List (Piece Name)) → spell naming s (ps ++ qs) ≡ spell naming s ps ++ spell naming (seen_after naming s ps) qs
unfolding spell seen_after
spell-append s [] qs = refl
spell-append s (byte b ∷ ps) qs = ap (λ t. b ∷ t) (spell-append s ps qs)
spell-append s (a_name n ∷ ps) qs =
    elim (initial_among naming all_initial n) as
    (λ o. (elim o [ Some k ↦ initial_text k ++ spell naming s (ps ++ qs) | None ↦ spell_new naming n (index_of naming n s) ++ spell naming (next_seen n s) (ps ++ qs) ])
    ≡ (elim o [ Some k ↦ initial_text k ++ spell naming s ps | None ↦ spell_new naming n (index_of naming n s) ++ spell naming (next_seen n s) ps ])
    ++ spell naming (elim o [ Some k ↦ seen_after naming s ps | None ↦ seen_after naming (next_seen n s) ps ]) qs) [
      | Some k ↦ ap (λ t. initial_text k ++ t) (spell-append s ps qs) ∙ sym (append_assoc (initial_text k) (spell naming s ps) _)
      | None ↦
          ap (λ t. spell_new naming n (index_of naming n s) ++ t) (spell-append (next_seen n s) ps qs)
          ∙ sym (append_assoc (spell_new naming n (index_of naming n s)) (spell naming (next_seen n s) ps) _)
    ]

seen-append : (s : List Name) (ps qs : List (Piece Name)) → seen_after naming s (ps ++ qs) ≡ seen_after naming (seen_after naming s ps) qs
unfolding seen_after
seen-append s [] qs = refl
seen-append s (byte b ∷ ps) qs = seen-append s ps qs
seen-append s (a_name n ∷ ps) qs =
    elim (initial_among naming all_initial n) as
    (λ o. (elim o [ Some k ↦ seen_after naming s (ps ++ qs) | None ↦ seen_after naming (next_seen n s) (ps ++ qs) ])
    ≡ seen_after naming (elim o [ Some k ↦ seen_after naming s ps | None ↦ seen_after naming (next_seen n s) ps ]) qs) [
      | Some k ↦ seen-append s ps qs
      | None ↦ seen-append (next_seen n s) ps qs
    ]

pieces-append : (t : Spelt) (xs ys : List (Piece Name)) → and_pieces (and_pieces t xs) ys ≡ and_pieces t (xs ++ ys)
unfolding and_pieces
pieces-append t xs ys =
    let text = append_assoc t.0 (spell naming t.1 xs) (spell naming (seen_after naming t.1 xs) ys) ∙ ap (λ u. t.0 ++ u) (sym (spell-append t.1 xs ys)) in
    λ i. (text i, sym (seen-append t.1 xs ys) i)

-- pieces after pieces
pub then_more : (t a b : Spelt) (xs ys zs : List (Piece Name)) → a ≡ and_pieces t xs → b ≡ and_pieces a ys → zs ≡ xs ++ ys → b ≡ and_pieces t zs
then_more t a b xs ys zs h k e = k ∙ ap (λ u. and_pieces u ys) h ∙ pieces-append t xs ys ∙ ap (and_pieces t) (sym e)

pub nothing_more : (t : Spelt) → t ≡ and_pieces t []
unfolding and_pieces spell seen_after
nothing_more t = λ i. (sym (append-nil t.0) i, t.1)

spell-say : (s : List Name) (bs : List ℕ) → bs ≡ spell naming s (say bs)
unfolding spell say
spell-say s [] = refl
spell-say s (b ∷ bs) = ap (λ t. b ∷ t) (spell-say s bs)

seen-say : (s : List Name) (bs : List ℕ) → s ≡ seen_after naming s (say bs)
unfolding seen_after say
seen-say s [] = refl
seen-say s (b ∷ bs) = seen-say s bs

pub said : (t : Spelt) (bs : List ℕ) → (t.0 ++ bs, t.1) ≡ and_pieces t (say bs)
unfolding and_pieces
said t bs = λ i. (t.0 ++ spell-say t.1 bs i, seen-say t.1 bs i)

pub said_so : (text : List ℕ) (t : Spelt) (bs : List ℕ) → text ≡ t.0 ++ bs → (text, t.1) ≡ and_pieces t (say bs)
said_so text t bs e = ap (λ u. (u, t.1)) e ∙ said t bs

pub say-append : (xs ys : List ℕ) → say {N = Name} (xs ++ ys) ≡ say xs ++ say ys
unfolding say
say-append [] ys = refl
say-append (x ∷ xs) ys = ap (λ t. byte x ∷ t) (say-append xs ys)

-- names

initial-found : (k : N.Initial) → initial_among naming all_initial (initial k) ≡ Some k
unfolding initial_among naming
initial-found int = refl
initial-found word = refl
initial-found char = refl
initial-found string = refl
initial-found bool = refl
initial-found exn = refl
initial-found real = refl
initial-found list = refl
initial-found ref = refl

made-new : (u n a : ℕ) (q : Bool) → initial_among naming all_initial (made u n a q) ≡ None
unfolding initial_among naming
made-new u n a q = refl

pub initial_name : (t : Spelt) (k : N.Initial) → and_pieces t (say (initial_text k)) ≡ and_pieces t (a_name (initial k) ∷ [])
unfolding and_pieces spell seen_after
initial_name t k =
    sym (said t (initial_text k))
    ∙ ap (λ u. (t.0 ++ u, t.1)) (sym (append-nil (initial_text k)))
    ∙ ap (λ o. (
      t.0 ++ (elim o [ Some j ↦ initial_text j ++ [] | None ↦ spell_new naming (initial k) (index_of naming (initial k) t.1) ++ [] ]),
      elim o [ Some j ↦ t.1 | None ↦ next_seen (initial k) t.1 ],
    )) (sym (initial-found k))

pub made_name : (t : Spelt) (u n a : ℕ) (q : Bool) → (t.0 ++ spell_new naming (made u n a q) (index_of naming (made u n a q) t.1), next_seen (made u n a q) t.1) ≡ and_pieces t (a_name (made u n a q) ∷ [])
unfolding and_pieces spell seen_after
made_name t u n a q =
    let m = made u n a q in
    ap (λ x. (t.0 ++ x, next_seen m t.1)) (sym (append-nil (spell_new naming m (index_of naming m t.1))))
    ∙ ap (λ o. (
      t.0 ++ (elim o [ Some j ↦ initial_text j ++ [] | None ↦ spell_new naming m (index_of naming m t.1) ++ [] ]),
      elim o [ Some j ↦ t.1 | None ↦ next_seen m t.1 ],
    )) (sym (made-new u n a q))

pub index_is : (n : TyName) (ms : List TyName) → index_of naming (name_of n) (map name_of ms) ≡ position_or_len (eq n) ms
unfolding index_of naming
index_is n [] = refl
index_is n (m ∷ ms) =
    (elim (naming.same (name_of n) (name_of m)) as
    (λ d. (elim d [ yes _ ↦ 0 | no _ ↦ suc (index_of naming (name_of n) (map name_of ms)) ])
    ≡ cond (not (elim d [ yes _ ↦ true | no _ ↦ false ])) (1 + index_of naming (name_of n) (map name_of ms)) 0) [ yes _ ↦ refl | no _ ↦ omega arith ])
    ∙ (λ i. cond (not (sym (eq-is n m) i)) (1 + index_is n ms i) 0)

at-end : (n : Name) (ms : List Name) → nat_eq (index_of naming n ms) (length ms) ≡ not (stands naming n ms)
unfolding index_of stands
at-end n [] = refl
at-end n (m ∷ ms) =
    elim (naming.same n m) as (λ d. nat_eq (elim d [ yes _ ↦ 0 | no _ ↦ suc (index_of naming n ms) ]) (suc (length ms)) ≡ not (elim d [ yes _ ↦ true | no _ ↦ stands naming n ms ])) [
      | yes _ ↦ ne_eqb 0 (suc (length ms)) (λ e. absurd (omega (arith, e)))
      | no _ ↦ eqb-suc-suc (index_of naming n ms) (length ms) ∙ at-end n ms
    ]

turned : {A : Type 0} (b : Bool) (x y : A) → cond b x y ≡ cond (not b) y x
turned true x y = refl
turned false x y = refl

pub next_names : (n : TyName) (old new : List TyName) → new ≡ (if list_any (eq n) old then old else old ++ (n ∷ []))
    → map name_of new ≡ next_seen (name_of n) (map name_of old)
next_names n old new h =
    let s = map name_of old in
    inserted n old new h ∙ turned (stands naming (name_of n) s) s (s ++ (name_of n ∷ []))
    ∙ ap (λ b. cond b (s ++ (name_of n ∷ [])) s) (sym (at-end (name_of n) s))

pub on_ok_then : {X E : Type 0} (r : Result X E) (P Q : Type 0) → (P → Q) → OnOk r P → OnOk r Q
on_ok_then (Ok x) P Q f h = f h
on_ok_then (Err e) P Q f h = tt
