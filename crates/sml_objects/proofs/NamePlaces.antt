-- Places of names, by the program's test for equal names.
use Rattle.std.proofs.Common.{◌≡◌, ℕ, suc, ◌+◌, Bool, true, false, cond, not, Some, None, List, [], ◌∷◌, length, map, filter, nat_lt, refl, ap, sym, ◌∙◌, arith}
use Rattle.std.specs.List.{list_any, position, position_or_len}
use Rattle.sml_objects.specs.Initial.{naming}
use Rattle.sml_objects.specs.Canonical.{index_of, renumber, with_number}
use Rattle.sml_objects.specs.Views.{name_of}
use Rattle.sml_objects.specs.declared.objects.TyName.{TyName}
use Rattle.sml_objects.proofs.NameTests.{eq, eq-is, stands-any}

found-place : {X : Type 0} (p : X → Bool) (xs : List X) (i : ℕ) → Some i ≡ position p xs → i ≡ position_or_len p xs
found-place p xs i h =
    (elim (nat_lt (position_or_len p xs) (length xs)) as (λ b. Some i ≡ cond b (Some (position_or_len p xs)) None → i ≡ position_or_len p xs) [
      | true ↦ λ e. cc
      | false ↦ λ e. cc
    ]) h

place-position : (n : TyName) (ms : List TyName) → index_of naming (name_of n) (map name_of ms) ≡ position_or_len (eq n) ms
unfolding index_of naming
place-position n [] = refl
place-position n (m ∷ ms) =
    (elim (naming.same (name_of n) (name_of m)) as
    (λ d. (elim d [ yes _ ↦ 0 | no _ ↦ suc (index_of naming (name_of n) (map name_of ms)) ])
    ≡ cond (not (elim d [ yes _ ↦ true | no _ ↦ false ])) (1 + index_of naming (name_of n) (map name_of ms)) 0) [ yes _ ↦ refl | no _ ↦ omega arith ])
    ∙ (λ i. cond (not (sym (eq-is n m) i)) (1 + place-position n ms i) 0)

pub renumber-found : (unit count : ℕ) (ns : List TyName) (n : TyName) (i : ℕ) → true ≡ list_any (eq n) ns → Some i ≡ position (eq n) ns
    → with_number unit (count + i) (name_of n) ≡ renumber unit count (map name_of ns) (name_of n)
unfolding renumber
renumber-found unit count ns n i h k =
    ap (λ j. with_number unit (count + j) (name_of n)) (found-place (eq n) ns i k ∙ sym (place-position n ns))
    ∙ ap (λ b. cond b (with_number unit (count + index_of naming (name_of n) (map name_of ns)) (name_of n)) (name_of n)) (h ∙ sym (stands-any n ns))

pub renumber-missing : (unit count : ℕ) (ns : List TyName) (n : TyName) → false ≡ list_any (eq n) ns → name_of n ≡ renumber unit count (map name_of ns) (name_of n)
unfolding renumber
renumber-missing unit count ns n h =
    ap (λ b. cond b (with_number unit (count + index_of naming (name_of n) (map name_of ns)) (name_of n)) (name_of n)) (h ∙ sym (stands-any n ns))

pub map-filter : {A B : Type 0} (p : B → Bool) (f : A → B) (xs : List A) → map f (filter (λ x. p (f x)) xs) ≡ filter p (map f xs)
map-filter p f [] = refl
map-filter p f (x ∷ xs) =
    elim (p (f x)) as (λ b. map f (cond b (x ∷ filter (λ y. p (f y)) xs) (filter (λ y. p (f y)) xs)) ≡ cond b (f x ∷ filter p (map f xs)) (filter p (map f xs))) [
      | true ↦ ap (λ l. f x ∷ l) (map-filter p f xs)
      | false ↦ map-filter p f xs
    ]
