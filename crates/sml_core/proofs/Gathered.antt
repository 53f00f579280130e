-- Identifiers that are gathered, each once, and which of them are not in scope.
use Rattle.std.proofs.Common.{◌≡◌, ◌<◌, ◌+◌, ℕ, Bool, true, false, cond, if◌then◌else◌, ◌||◌, List, [], ◌∷◌, ◌++◌, map, drop, get_or, length, refl, ap, sym, subst, ◌∙◌, Vec}
use Rattle.std.specs.Global.{Global}
use Rattle.std.specs.List.{list_any}
use Rattle.std.specs.Option.{is_some}
use Rattle.std.specs.Str.{bytes_eq}
use Rattle.std.specs.declared.rc.Rc.{Rc}
use Rattle.std.proofs.lemmas.Bool.{false≢true, or_from, or_right, true≢false}
use Rattle.std.proofs.lemmas.List.{append_assoc, append-nil, drop_more}
use Rattle.indexmap.specs.IndexSet.{insert_key}
use Rattle.sml_tree.specs.Trees.{Id}
use Rattle.sml_tree.specs.TypeViews.{names_of}
use Rattle.sml_tree.specs.Views.{ident_of}
use Rattle.sml_tree.specs.declared.names.Name as P
use Rattle.sml_tree.proofs.Idents.{id_same}
use Rattle.sml_objects.specs.Initial.{Name}
use Rattle.sml_objects.specs.Maps.{Map, lookup}
use Rattle.sml_objects.specs.Objects.{MlType}
use Rattle.sml_core_rules.specs.Expressions.{not_in_scope}
use Rattle.sml_core_rules.specs.Lookups.{is_listed, is_same}
use Rattle.sml_closing.specs.Gathered.{ids_of, with_all}
use Rattle.sml_core.proofs.Binding.{same-bytes}

abbrev Key : Type 0
Key = Rc (Vec ℕ Global) Global

abbrev pub idents : List P.Name → List Id
idents xs = map (λ x. x.id) (names_of xs)

-- one name more of a list
pub one-named : (all : List P.Name) (i : ℕ) (n : P.Name) (now next whole : List Id) → i < length all → get_or all i n ≡ n → with_all now (idents (drop i all)) ≡ whole
    → next ≡ with_all now (ident_of n.ident ∷ []) → with_all next (idents (drop (i + 1) all)) ≡ whole
one-named all i n now next whole within here h e =
    ap (λ ks. with_all ks (idents (drop (i + 1) all))) e
    ∙ sym (ap (λ xs. with_all now (idents xs)) (drop_more all i n within ∙ ap (λ y. y ∷ drop (i + 1) all) here)) ∙ h

any-same : (x : Id) (ks : List Key) → list_any (λ q. bytes_eq x (ident_of q)) ks ≡ list_any (bytes_eq x) (ids_of ks)
any-same x [] = refl
any-same x (k ∷ ks) = ap (λ b. bytes_eq x (ident_of k) || b) (any-same x ks)

ids-pushed : (ks : List Key) (k : Key) → ids_of (ks ++ k ∷ []) ≡ ids_of ks ++ ident_of k ∷ []
ids-pushed [] k = refl
ids-pushed (j ∷ ks) k = ap (λ xs. ident_of j ∷ xs) (ids-pushed ks k)

ids-either : (b : Bool) (ks : List Key) (k : Key) → ids_of (if b then ks else ks ++ k ∷ []) ≡ (if b then ids_of ks else ids_of ks ++ ident_of k ∷ [])
ids-either true ks k = refl
ids-either false ks k = ids-pushed ks k

-- a table with one name more
pub inserted : (old new : List Key) (k : Key) (x : Id) → ident_of k ≡ x → new ≡ insert_key (λ p q. bytes_eq (ident_of p) (ident_of q)) old k → ids_of new ≡ with_all (ids_of old) (x ∷ [])
inserted old new k x e h =
    ap ids_of h ∙ ids-either (list_any (λ q. bytes_eq (ident_of k) (ident_of q)) old) old k
    ∙ ap (λ b. if b then ids_of old else ids_of old ++ ident_of k ∷ []) (any-same (ident_of k) old)
    ∙ ap (λ y. with_all (ids_of old) (y ∷ [])) e

-- those of two lists are those of the second after those of the first
pub all-after : (ks xs ys : List Id) → with_all (with_all ks xs) ys ≡ with_all ks (xs ++ ys)
all-after ks [] ys = refl
all-after ks (x ∷ xs) ys = all-after (insert_key bytes_eq ks x) xs ys

-- identifiers that stand twice are not in scope where they stand once

shuffled : (a s q r : Bool) → (a || s) || (q || r) ≡ true → (a || (q || s)) || r ≡ true
shuffled true s q r h = refl
shuffled false s true r h = refl
shuffled false true false r h = refl
shuffled false false false r h = h

left-out : (p q r : Bool) → (q ≡ true → p ≡ true) → p || (q || r) ≡ true → p || r ≡ true
left-out true q r f h = refl
left-out false true r f h = absurd (false≢true (f refl))
left-out false false r f h = h

or-none : (p : Bool) → p || false ≡ true → p ≡ true
or-none true h = refl
or-none false h = h

pub neither : (a b : Bool) → a || b ≡ false → (a ≡ false) × (b ≡ false)
neither true b h = absurd (true≢false h)
neither false b h = (refl, h)

either-way : (b : Bool) (k : Id) (xs ys us vs : List Id) → (b ≡ true → xs ≡ ys) → (b ≡ false → us ≡ vs) → cond b xs (k ∷ us) ≡ cond b ys (k ∷ vs)
either-way true k xs ys us vs f g = f refl
either-way false k xs ys us vs f g = ap (λ zs. k ∷ zs) (g refl)

module _ (vs : Map (MlType Name)) where
  abbrev passes : List Id → Id → Bool
  passes seen x = is_some (lookup x vs) || is_listed x seen

  -- one that stands before is passed
  again : (y : Id) (seen ks ys : List Id) → passes seen y || list_any (bytes_eq y) ks ≡ true → not_in_scope vs seen (ks ++ (y ∷ ys)) ≡ not_in_scope vs seen (ks ++ ys)
  again y seen [] ys h =
      subst (λ b. cond b (not_in_scope vs seen ys) (y ∷ not_in_scope vs (y ∷ seen) ys) ≡ not_in_scope vs seen ys) (sym (or-none (passes seen y) h)) refl
  again y seen (k ∷ ks) ys h =
      either-way (passes seen k) k (not_in_scope vs seen (ks ++ (y ∷ ys))) (not_in_scope vs seen (ks ++ ys)) (not_in_scope vs (k ∷ seen) (ks ++ (y ∷ ys))) (not_in_scope vs (k ∷ seen) (ks ++ ys))
      (λ e. again y seen ks ys (left-out (passes seen y) (bytes_eq y k) (list_any (bytes_eq y) ks) (λ q. ap (passes seen) (id_same y k q) ∙ e) h))
      (λ e. again y (k ∷ seen) ks ys
      (subst (λ q. (is_some (lookup y vs) || (q || is_listed y seen)) || list_any (bytes_eq y) ks ≡ true) (same-bytes y k)
      (shuffled (is_some (lookup y vs)) (is_listed y seen) (bytes_eq y k) (list_any (bytes_eq y) ks) h)))

  each-once : (ks ys : List Id) → not_in_scope vs [] (with_all ks ys) ≡ not_in_scope vs [] (ks ++ ys)
  each-once ks [] = ap (not_in_scope vs []) (sym (append-nil ks))
  each-once ks (y ∷ ys) = each-once (insert_key bytes_eq ks y) ys ∙ go (list_any (bytes_eq y) ks) refl
    where
      go : (b : Bool) → list_any (bytes_eq y) ks ≡ b → not_in_scope vs [] ((if b then ks else ks ++ y ∷ []) ++ ys) ≡ not_in_scope vs [] (ks ++ (y ∷ ys))
      go true e = sym (again y [] ks ys (or_right (passes [] y) (list_any (bytes_eq y) ks) e))
      go false e = ap (not_in_scope vs []) (append_assoc ks (y ∷ []) ys)

  -- a list and its identifiers each once have the same that are not in scope
  pub once : (xs : List Id) → not_in_scope vs [] (with_all [] xs) ≡ not_in_scope vs [] xs
  once xs = each-once [] xs

-- three lists, one after the other
pub gathered : (first second last xs ys zs : List Id) → first ≡ with_all [] xs → second ≡ with_all first ys → last ≡ with_all second zs → last ≡ with_all [] (xs ++ (ys ++ zs))
gathered first second last xs ys zs e f g =
    g ∙ ap (λ ks. with_all ks zs) (f ∙ ap (λ ks. with_all ks ys) e) ∙ all-after (with_all [] xs) ys zs ∙ all-after [] xs (ys ++ zs)

-- what stands in no list is not gathered

unlisted-end : (y : Id) (ks : List Id) (x : Id) → is_listed y ks ≡ false → is_same y x ≡ false → is_listed y (ks ++ x ∷ []) ≡ false
unlisted-end y [] x h e = or_from (is_same y x) false e refl
unlisted-end y (k ∷ ks) x h e = let n = neither (is_same y k) (is_listed y ks) h in or_from (is_same y k) (is_listed y (ks ++ x ∷ [])) n.0 (unlisted-end y ks x n.1 e)

unlisted-one : (y : Id) (ks : List Id) (x : Id) → is_listed y ks ≡ false → is_same y x ≡ false → is_listed y (insert_key bytes_eq ks x) ≡ false
unlisted-one y ks x h e = go (list_any (bytes_eq x) ks)
  where
    go : (b : Bool) → is_listed y (if b then ks else ks ++ x ∷ []) ≡ false
    go true = h
    go false = unlisted-end y ks x h e

pub unlisted-all : (y : Id) (ks xs : List Id) → is_listed y ks ≡ false → is_listed y xs ≡ false → is_listed y (with_all ks xs) ≡ false
unlisted-all y ks [] h e = h
unlisted-all y ks (x ∷ xs) h e = let n = neither (is_same y x) (is_listed y xs) e in unlisted-all y (insert_key bytes_eq ks x) xs (unlisted-one y ks x h n.0) n.1
