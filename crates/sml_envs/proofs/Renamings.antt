-- Names that others become, made one after the other.
use Rattle.std.proofs.Common.{◌≡◌, ℕ, Bool, true, false, ◌&&◌, cond, nat_eq, nat_le, ◌+◌, ◌<◌, ◌++◌, List, [], ◌∷◌, Option, Some, None, drop, get_or, length, map, refl, ap, sym, ◌∙◌, append_assoc}
use Rattle.std.proofs.lemmas.List.{drop_more, map-append}
use Rattle.std.specs.Option.{option_or}
use Rattle.sml_tree.specs.Trees.{Id}
use Rattle.sml_objects.specs.Initial.{Name, initial, made}
use Rattle.sml_objects.specs.Views.{maker_of, name_of}
use Rattle.sml_objects.specs.declared.objects.TyName.{TyName}
use Rattle.sml_bases.specs.declared.objects.Basis.{out-Basis}
use Rattle.sml_type_maps.specs.Mapped.{is_same, names_of}
use Rattle.sml_type_maps.specs.NewNames.{carries, carries_too, is_new, like, next_after, same_number}
use Rattle.sml_type_maps.specs.declared.new_names.NewNames.{NewNames}
use Rattle.sml_type_maps.proofs.Listed.{listed-put}
use Rattle.indexmap.specs.IndexMap.{insert_entry}
use Rattle.sml_objects.proofs.NameTests.{eq}
use Rattle.sml_envs.specs.Renamed.{carries_like, made_like, new_for, number_after}

-- the names of a list that are left from a place on
abbrev pub left : ℕ → List TyName → List Name
left i xs = map name_of (drop i xs)

pub left-more : (xs : List TyName) (i : ℕ) (d : TyName) → i < length xs → left i xs ≡ name_of (get_or xs i d) ∷ left (i + 1) xs
left-more xs i d h = ap (map name_of) (drop_more xs i d h)

pub number-next : (s : NewNames) (k : ℕ) (x : Name) (xs : List Name) → k ≡ next_after s x → number_after k xs ≡ number_after s.next (x ∷ xs)
number-next s k x xs h = ap (λ k. number_after k xs) h ∙ go x
  where
    go : (x : Name) → number_after (next_after s x) xs ≡ number_after s.next (x ∷ xs)
    go (initial i) = refl
    go (made v n a q) = refl

pub made-next : (s : NewNames) (u k : ℕ) (x m : Name) (xs : List Name) → maker_of s.unit ≡ u → m ≡ like s x → k ≡ next_after s x
    → m ∷ made_like u k xs ≡ made_like u s.next (x ∷ xs)
made-next s u k x m xs h e f = (λ i. e i ∷ made_like (sym h i) (f i) xs) ∙ go x ∙ ap (λ v. made_like v s.next (x ∷ xs)) h
  where
    go : (x : Name) → like s x ∷ made_like (maker_of s.unit) (next_after s x) xs ≡ made_like (maker_of s.unit) s.next (x ∷ xs)
    go (initial i) = refl
    go (made v n a q) = refl

-- one more that was made
pub made-push : (u k j : ℕ) (ms ns : List TyName) (m : TyName) (xs ys : List Name) → ns ≡ ms ++ (m ∷ []) → name_of m ∷ made_like u k xs ≡ made_like u j ys
    → map name_of ns ++ made_like u k xs ≡ map name_of ms ++ made_like u j ys
made-push u k j ms ns m xs ys pushed next =
    ap (λ l. map name_of l ++ made_like u k xs) pushed
    ∙ ap (λ l. l ++ made_like u k xs) (map-append name_of ms (m ∷ []))
    ∙ append_assoc (map name_of ms) (name_of m ∷ []) (made_like u k xs)
    ∙ ap (λ l. map name_of ms ++ l) next

option-nested : (later : Option Name) (b : Bool) (m : Name) (o : Option Name)
    → option_or later (cond b (Some m) o) ≡ option_or (option_or later (cond b (Some m) None)) o
option-nested None true m o = refl
option-nested None false m o = refl
option-nested (Some k) b m o = refl

-- one more that another became
pub listed-next : (es fs : List (TyName × TyName)) (x m : TyName) (xs ms ks : List Name) (n : Name) → fs ≡ insert_entry eq es x m → name_of m ∷ ms ≡ ks
    → option_or (new_for xs ms n) (names_of fs n) ≡ option_or (new_for (name_of x ∷ xs) ks n) (names_of es n)
listed-next es fs x m xs ms ks n inserted next =
    ap (option_or (new_for xs ms n)) (ap (λ l. names_of l n) inserted ∙ listed-put name_of es x m n)
    ∙ option-nested (new_for xs ms n) (is_same n (name_of x)) (name_of m) (names_of es n)
    ∙ ap (λ l. option_or (new_for (name_of x ∷ xs) l n) (names_of es n)) next

cond-same : {X : Type 0} (b : Bool) (x : X) → x ≡ cond b x x
cond-same true x = refl
cond-same false x = refl

too-by : (s r : NewNames) (m : Name) (o : Option (List Id)) (n : Name) → s.unit ≡ r.unit → s.basis ≡ r.basis
    → carries_too s m o n ≡ cond (is_new r n && same_number n m) (option_or o (carries s n)) (carries s n)
too-by s r m None n u b = cond-same (is_new r n && same_number n m) (carries s n)
too-by s r m (Some xs) (initial k) u b = refl
too-by s r m (Some xs) (made v k a q) u b =
    λ i. cond ((nat_eq (maker_of (u i)) v && nat_le (out-Basis (b i).now).count k) && same_number (made v k a q) m) (Some xs) (carries s (made v k a q))

-- one more that carries what another does
pub carried-next : (s t r : NewNames) (x m : Name) (xs ms ks : List Name) (n : Name) → s.unit ≡ r.unit → s.basis ≡ r.basis → m ≡ like s x
    → ((k : Name) → carries t k ≡ carries_too s (like s x) (carries s x) k) → m ∷ ms ≡ ks
    → carries_like (is_new r) xs ms (carries t) n ≡ carries_like (is_new r) (x ∷ xs) ks (carries s) n
carried-next s t r x m xs ms ks n u b e h next =
    (λ i. carries_like (is_new r) xs ms (λ k. (h k ∙ ap (λ l. carries_too s l (carries s x) k) (sym e) ∙ too-by s r m (carries s x) k u b) i) n)
    ∙ ap (λ l. carries_like (is_new r) (x ∷ xs) l (carries s) n) next
