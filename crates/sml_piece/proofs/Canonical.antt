-- Readings of declarations whose names are renumbered by first appearance.
use Rattle.std.proofs.Common.{◌≡◌, ◌<◌, ◌≤◌, ◌+◌, ℕ, suc, Bool, true, false, cond, not, ◌&&◌, nat_eq, nat_lt, List, [], ◌∷◌, map, length, Err, inl, inr, refl, ap, sym, subst, ◌∙◌, arith}
use Rattle.std.proofs.lemmas.Bool.{true≢false, eqb-true, lt-ltb}
use Rattle.std.proofs.lemmas.List.{length-map, nil_from_length}
use Rattle.sml_lex.specs.declared.fault.Place.{Place}
use Rattle.sml_lex.specs.Faults as F
use Rattle.sml_tree.specs.Trees as T
use Rattle.sml_objects.specs.Objects.{Sig, Basis, names_basis, names_env, names_sig, rename_sig, rename_basis}
use Rattle.sml_objects.specs.Initial.{Name, initial, made, naming}
use Rattle.sml_objects.specs.Alike.{IsFixed, AlikeOver}
use Rattle.sml_objects.specs.Appearance.{Stands, stands}
use Rattle.sml_objects.specs.Canonical.{is_new, new_names, index_of, with_number, renumber, canonical}
use Rattle.sml_objects.proofs.CanonicalForms.{new-in, canonical-renames, new-is, no-repeats}
use Rattle.sml_objects.proofs.Renaming.{sig-image, sig_laws}
use Rattle.sml_rules.specs.Answers.{Reading, refused, accepted, After, give, ◌>>=◌, test, fault}
use Rattle.sml_rules.specs.Every.{Every}
use Rattle.sml_rules.specs.Readings.{read_dec, read_top}
use Rattle.sml_rules.proofs.Paths.{equivariant}
use Rattle.sml_rules.proofs.Readings.{basis_supported, sig_supported}
use Rattle.sml_rules.proofs.Renaming.{Fixes}
use Rattle.sml_rules.proofs.Settled.{pair_supported}
use Rattle.sml_rules.proofs.Sound.{bound_by, given}
use Rattle.sml_rules.proofs.Lists.{no_longer}
use Rattle.sml_rules.proofs.EveryItem.{every_more}
use Rattle.sml_rules.proofs.Within.{last, read_dec_within}
use Rattle.sml_lex.specs.declared.fault.Code.TheVariants.{Q3}
use Rattle.sml_lex.specs.Faults.{first_place}
use Rattle.sml_objects.specs.Views.{maker_of, name_of, sig_of}
use Rattle.sml_objects.specs.declared.objects.Basis as PB
use Rattle.sml_piece.specs.declared.top_fault.TopFault.{TopFault}
use Rattle.sml_piece.specs.declared.top_fault.TopFault.TheVariants.{Memory, Fault}
use Rattle.sml_piece.specs.Elaborated.{Answers, IsBelow, IsBasisOf, IsOwnBasis, read_numbered}
use Rattle.sml_piece.proofs.Answering.{then_any, passes, gives}

not_new : (unit count : ℕ) (n : Name) → IsBelow unit count n → is_new unit count n ≡ false
not_new unit count (initial k) h = refl
not_new unit count (made u k a q) h = go (nat_eq u unit) refl
  where
    go : (b : Bool) → nat_eq u unit ≡ b → (b && not (nat_lt k count)) ≡ false
    go true e = ap not (lt-ltb k count (h (eqb-true u unit e)))
    go false e = refl

old_names : (unit count : ℕ) (ns : List Name) → Every (IsBelow unit count) ns → (n : Name) → Stands n ns → is_new unit count n ≡ false
unfolding Stands
old_names unit count [] h n s = absurd s
old_names unit count (m ∷ ns) h n (inl e) = ap (is_new unit count) e ∙ not_new unit count m h.0
old_names unit count (m ∷ ns) h n (inr s) = old_names unit count ns h.1 n s

not_refused : {X : Type 0} {f : F.Fault Place} {x : X} → refused f ≡ accepted x → ⊥
not_refused e = cc

every_standing : (P : Name → Type 0) (ns : List Name) → ((n : Name) → Stands n ns → P n) → Every P ns
unfolding Stands
every_standing P [] h = tt
every_standing P (n ∷ ns) h = (h n (inl refl), every_standing P ns (λ m s. h m (inr s)))

standing_of : (P : Name → Type 0) (ns : List Name) → Every P ns → (n : Name) → Stands n ns → P n
unfolding Stands
standing_of P [] h n s = absurd s
standing_of P (m ∷ ns) h n (inl e) = subst P (sym e) h.0
standing_of P (m ∷ ns) h n (inr s) = standing_of P ns h.1 n s

fixes_of : (f : Name → Name) (ns : List Name) → IsFixed f ns → Fixes f ns
unfolding IsFixed Fixes
fixes_of f [] h = tt
fixes_of f (n ∷ ns) h = (h.0, fixes_of f ns h.1)

-- what is read may be renumbered
pub read_canonical : (p : Place) (unit count : ℕ) (B : Basis Name) (d : T.Dec Place) (S : Sig Name) → Every (IsBelow unit count) (names_basis B)
    → read_top naming p unit B d (accepted S) → read_top naming p unit B d (accepted (canonical unit count S))
unfolding AlikeOver
read_canonical p unit count B d S below h =
    let a = canonical-renames unit count B S (old_names unit count (names_basis B) below) in
    let f = a.0 in
    let moved : read_top naming p unit (rename_basis f.to B) d (accepted (rename_sig f.to S)) =
    equivariant {F = λ N. Basis N × Sig N} (pair_supported basis_supported sig_supported) (λ N names x. read_top names p unit x.0 d (accepted x.1)) naming f (B, S) h in
    subst (λ R. read_top naming p unit B d (accepted R)) a.2
    (subst (λ C. read_top naming p unit C d (accepted (rename_sig f.to S))) (basis_supported.fixed f.to B (fixes_of f.to (names_basis B) a.1)) moved)

place_within : (n : Name) (ns : List Name) → stands naming n ns ≡ true → index_of naming n ns < length ns
unfolding stands index_of
place_within n [] h = absurd (true≢false (sym h))
place_within n (m ∷ ns) h = go (naming.same n m) h (place_within n ns)
  where
    go : (e : Dec (n ≡ m)) → (elim e [ yes _ ↦ true | no _ ↦ stands naming n ns ]) ≡ true → (stands naming n ns ≡ true → index_of naming n ns < length ns)
        → (elim e [ yes _ ↦ 0 | no _ ↦ suc (index_of naming n ns) ]) < suc (length ns)
    go (yes e) h k = omega arith
    go (no e) h k = let l = k h in omega (arith, l)

renumbered_below : (unit count most : ℕ) (ns : List Name) (n : Name) → length ns ≤ most → IsBelow unit (count + most) n → IsBelow unit (count + most) (renumber unit count ns n)
unfolding renumber
renumbered_below unit count most ns n few h = go (stands naming n ns) refl
  where
    go : (b : Bool) → stands naming n ns ≡ b → IsBelow unit (count + most) (cond b (with_number unit (count + index_of naming n ns) n) n)
    go true e = λ same. let l = place_within n ns e in omega (arith, l, few)
    go false e = h

all_renumbered : (unit count most : ℕ) (ns ms : List Name) → length ns ≤ most → Every (IsBelow unit (count + most)) ms → Every (IsBelow unit (count + most)) (map (renumber unit count ns) ms)
all_renumbered unit count most ns [] few h = tt
all_renumbered unit count most ns (m ∷ ms) few h = (renumbered_below unit count most ns m few h.0, all_renumbered unit count most ns ms few h.1)

-- the numbers of a canonical form stay below the count with the names made
pub canonical_below : (unit count most : ℕ) (S : Sig Name) → length (new_names unit count S) ≤ most → Every (IsBelow unit (count + most)) (names_sig S)
    → Every (IsBelow unit (count + most)) (names_sig (canonical unit count S))
unfolding canonical
canonical_below unit count most S few h =
    subst (Every (IsBelow unit (count + most))) (sym (sig-image (renumber unit count (new_names unit count S)) S)) (all_renumbered unit count most (new_names unit count S) (names_sig S) few h)

-- and there are as many names
pub canonical_count : (unit count : ℕ) (S : Sig Name) → length (canonical unit count S).names ≡ length S.names
unfolding canonical rename_sig
canonical_count unit count S = length-map S.names (renumber unit count (new_names unit count S))

-- what a declaration of the piece gives is read at the top level, where its names aren't too many
pub top_of : (p own : PB.Basis) (B : Basis Name) → IsBasisOf p B → (d : T.Dec Place) → read_dec naming (maker_of p.unit) B d (accepted (sig_of own))
    → length p.names.items + length own.names.items ≤ 1048576 → read_top naming first_place (maker_of p.unit) B d (accepted (sig_of own))
unfolding read_top
top_of p own B basis d h few =
    let S = sig_of own in
    let counts = ap (λ n. n + length own.names.items) (sym basis.count_is) ∙ ap (λ n. B.count + n) (sym (length-map own.names.items name_of)) in
    then_any _ _ S (accepted S) h (then_any _ _ tt (accepted S) (passes _ (fault Q3 first_place) (subst (λ n. n ≤ 1048576) counts few)) (gives S))

-- the same with its names renumbered
pub numbered_top : (p own b : PB.Basis) (B : Basis Name) → IsBasisOf p B → (d : T.Dec Place) → read_top naming first_place (maker_of p.unit) B d (accepted (sig_of own))
    → sig_of b ≡ canonical (maker_of p.unit) (length p.names.items) (sig_of own) → read_top naming first_place (maker_of p.unit) B d (accepted (sig_of b))
numbered_top p own b B basis d h e =
    subst (λ S. read_top naming first_place (maker_of p.unit) B d (accepted S)) (sym e)
    (read_canonical first_place (maker_of p.unit) (length p.names.items) B d (sig_of own) basis.below h)

-- a new name of what is read is among those that were made
new_among : (unit count : ℕ) (B : Basis Name) (d : T.Dec Place) (S : Sig Name) → Every (IsBelow unit count) (names_basis B) → read_dec naming unit B d (accepted S)
    → (n : Name) → Stands n (new_names unit count S) → Stands n S.names
unfolding names_basis naming
new_among unit count B d S below h n s =
    let P : Name → Type 0 = λ n. is_new unit count n ≡ true → Stands n S.names in
    let old = every_more (IsBelow unit count) P (λ n b k. absurd (true≢false (sym k ∙ not_new unit count n b))) (names_basis B) below in
    let each = read_dec_within P naming (λ k. absurd (true≢false (sym k))) unit B d S (last P B.names (names_env B.body) old) (every_standing P S.names (λ n s k. s)) h in
    standing_of P (names_sig S) each n (new-in unit count S n s) (new-is unit count S n s)

-- so there are no more of them
pub few_new : (p own : PB.Basis) (B : Basis Name) → IsBasisOf p B → (d : T.Dec Place) → read_dec naming (maker_of p.unit) B d (accepted (sig_of own))
    → length (new_names (maker_of p.unit) (length p.names.items) (sig_of own)) ≤ length own.names.items
few_new p own B basis d h =
    let unit = maker_of p.unit in
    let count = length p.names.items in
    let S = sig_of own in
    subst (λ n. length (new_names unit count S) ≤ n) (length-map own.names.items name_of)
    (no_longer naming (new_names unit count S) S.names (no-repeats unit count S) (new_among unit count B d S basis.below h))

-- and never too many
pub never_many : {X Y : Type 0} (view : X → Y) (R : Reading Place Y) (p own : PB.Basis) (B : Basis Name) → IsBasisOf p B → (d : T.Dec Place)
    → read_dec naming (maker_of p.unit) B d (accepted (sig_of own)) → length p.names.items + length own.names.items ≤ 1048576 → (f : TopFault)
    → Answers sig_of (Err f) (read_numbered (maker_of p.unit) (length p.names.items) (sig_of own)) → Answers view (Err f) R
unfolding ◌>>=◌ After test give
never_many view R p own B basis d h few Memory k = tt
never_many view R p own B basis d h few (Fault g) (accepted u, k, e) = absurd (not_refused e)
never_many view R p own B basis d h few (Fault g) (refused f, inl k, e) = absurd (not_refused k.1)
never_many view R p own B basis d h few (Fault g) (refused f, inr k, e) = let new = few_new p own B basis d h in absurd (k.0 (omega (arith, new, few)))

-- what is accepted with its names renumbered
pub numbered_is : (unit count : ℕ) (S T : Sig Name) → read_numbered unit count S (accepted T) → T ≡ canonical unit count S
numbered_is unit count S T h = let a = bound_by _ _ T h in given Place (canonical unit count S) T a.2

pub numbered_own : (p own b : PB.Basis) → IsOwnBasis p own → sig_of b ≡ canonical (maker_of p.unit) (length p.names.items) (sig_of own) → b.unit ≡ own.unit
    → length (new_names (maker_of p.unit) (length p.names.items) (sig_of own)) ≤ length own.names.items → IsOwnBasis p b
numbered_own p own b is e unit few =
    let S = sig_of own in
    let u = maker_of p.unit in
    let count = length p.names.items in
    let same : length own.names.items ≡ length b.names.items =
    sym (length-map own.names.items name_of) ∙ sym (canonical_count u count S) ∙ ap (λ S. length S.names) (sym e) ∙ length-map b.names.items name_of in
    record {
      unit_is = unit ∙ is.unit_is;
      own_below = subst (λ n. Every (IsBelow u (count + n)) (names_sig (sig_of b))) same
          (subst (λ R. Every (IsBelow u (count + length own.names.items)) (names_sig R)) (sym e) (canonical_below u count (length own.names.items) S few is.own_below));
    }

-- where no name is new nothing changes
pub canonical_unchanged : (unit count : ℕ) (S : Sig Name) → length (new_names unit count S) ≡ 0 → canonical unit count S ≡ S
unfolding canonical renumber stands
canonical_unchanged unit count S none =
    let f : renumber unit count (new_names unit count S) ≡ (λ n. n) = λ i n. cond (stands naming n (nil_from_length (new_names unit count S) none i)) (with_number unit (count + index_of naming n (nil_from_length (new_names unit count S) none i)) n) n in
    ap (λ g. rename_sig g S) f ∙ sig_laws.identity S
