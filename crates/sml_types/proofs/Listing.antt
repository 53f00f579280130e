-- Variables by their places in a list, as a table has them.
use Rattle.std.proofs.Common.{◌≡◌, ◌++◌, ◌+◌, ℕ, zero, suc, slice_get, Bool, true, false, cond, inl, inr, Option, Some, None, List, [], ◌∷◌, length, map, refl, ap, sym, ◌∙◌, arith, Vec, Global}
use Rattle.std.proofs.lemmas.Cmp.{nat_list_cmp_total}
use Rattle.std.specs.Option.{is_some, option_map, option_or}
use Rattle.std.specs.List.{list_any}
use Rattle.std.specs.Bool.{if◌then◌else◌}
use Rattle.std.proofs.lemmas.List.{map-append}
use Rattle.indexmap.specs.IndexSet.{insert_key}
use Rattle.std.proofs.lemmas.Bool.{true≢false}
use Rattle.std.specs.declared.rc.Rc.{Rc}
use Rattle.indexmap.specs.IndexMap.{insert_entry}
use Rattle.sml_tree.proofs.Tables.{given}
use Rattle.sml_tree.specs.Views.{ident_of}
use Rattle.std.specs.Ordering.{ordering_reverse}
use Rattle.std.specs.declared.cmp.Ordering.{Ordering}
use Rattle.std.specs.declared.cmp.Ordering.TheVariants.{Less, Equal, Greater}
use Rattle.std.specs.Str.{bytes_eq}
use Rattle.sml_lex.specs.declared.fault.Place.{Place}
use Rattle.sml_tree.specs.Trees.{Id}
use Rattle.sml_tree.specs.Names as N
use Rattle.sml_tree.proofs.Idents.{id_tells, id_same}
use Rattle.sml_objects.specs.Initial.{Name}
use Rattle.sml_objects.specs.Maps.{by_order, lookup, order_of}
use Rattle.sml_objects.specs.Objects as O
use Rattle.sml_objects.proofs.Puts.{same_ident}
use Rattle.sml_core_rules.specs.Datatypes.{listed}
use Rattle.sml_types.specs.Variables.{place_from, place_in}

own-order : (o : Ordering) → o ≡ ordering_reverse o → o ≡ Equal
own-order Less h = cc
own-order Equal h = refl
own-order Greater h = cc

passed : {A : Type 0} (o : Ordering) (a b : A) → ¬ (o ≡ Equal) → by_order o a b a ≡ a
passed Less a b n = refl
passed Equal a b n = absurd (n refl)
passed Greater a b n = refl

-- the order of identifiers tells what their bytes do
pub by-bytes : {A : Type 0} (x y : Id) (a b : A) → by_order (order_of x y) a b a ≡ cond (bytes_eq x y) b a
by-bytes x y a b = elim (id_tells x y) [
  | inl h ↦ ap (λ o. by_order o a b a) (ap (order_of x) (sym h.1) ∙ own-order (order_of x x) (nat_list_cmp_total.antisymm x x)) ∙ ap (λ t. cond t b a) (sym h.0)
  | inr h ↦ passed (order_of x y) a b (λ e. h.1 (same_ident x y e)) ∙ ap (λ t. cond t b a) (sym h.0)
]

option-cond : {A B : Type 0} (f : A → B) (b : Bool) (a : A) (o : Option A) → cond b (Some (f a)) (option_map f o) ≡ option_map f (cond b (Some a) o)
option-cond f true a o = refl
option-cond f false a o = refl

-- what is listed for a variable is what stands at its place
pub listed-at : (f : ℕ → O.MlType Name) (x : Id) (k : ℕ) (ns : List (N.Name Place)) → lookup x (listed f k ns) ≡ option_map f (place_from x k ns)
listed-at f x k [] = refl
listed-at f x k (n ∷ ns) =
    by-bytes x n.id (lookup x (listed f (suc k) ns)) (Some (f k))
    ∙ ap (cond (bytes_eq x n.id) (Some (f k))) (listed-at f x (suc k) ns)
    ∙ option-cond f (bytes_eq x n.id) k (place_from x (suc k) ns)

or-cond : {A : Type 0} (b : Bool) (a : A) (o p : Option A) → cond b (Some a) (option_or o p) ≡ option_or (cond b (Some a) o) p
or-cond true a o p = refl
or-cond false a o p = refl

-- a name more
pub place-push : (x : Id) (k j : ℕ) (ns : List (N.Name Place)) (n : N.Name Place) → j ≡ k + length ns
    → place_from x k (ns ++ (n ∷ [])) ≡ option_or (place_from x k ns) (cond (bytes_eq x n.id) (Some j) None)
place-push x k j [] n e = ap (λ i. cond (bytes_eq x n.id) (Some i) None) (omega (arith, e))
place-push x k j (m ∷ ns) n e =
    ap (cond (bytes_eq x m.id) (Some k)) (place-push x (suc k) j ns n (omega (arith, e)))
    ∙ or-cond (bytes_eq x m.id) k (place_from x (suc k) ns) (cond (bytes_eq x n.id) (Some j) None)

or-none : {A : Type 0} (o : Option A) → option_or o None ≡ o
or-none None = refl
or-none (Some a) = refl

no-entry : {A : Type 0} (o : Option A) → is_some o ≡ false → o ≡ None
no-entry None h = refl
no-entry (Some a) h = absurd (true≢false h)

or-some : {A : Type 0} (o p : Option A) → is_some o ≡ true → option_or o p ≡ o
or-some None p h = absurd (true≢false (sym h))
or-some (Some a) p h = refl

abbrev Key : Type 0
Key = Rc (Vec ℕ Global) Global

-- a name that has a place, and one that is given the next
pub place-kept : (x : Id) (es : List (Key × ℕ)) (ns : List (N.Name Place)) (n : N.Name Place) → ((y : Id) → place_in es y ≡ place_from y 0 ns)
    → is_some (place_in es n.id) ≡ true → place_in es x ≡ place_from x 0 (ns ++ (n ∷ []))
place-kept x es ns n h there =
    h x ∙ elim (id_tells x n.id) [
      | inl y ↦ sym (or-some (place_from x 0 ns) (cond (bytes_eq x n.id) (Some (length ns)) None) (ap is_some (sym (h x) ∙ ap (place_in es) y.1) ∙ there))
      | inr y ↦ sym (ap (λ b. option_or (place_from x 0 ns) (cond b (Some (length ns)) None)) y.0 ∙ or-none (place_from x 0 ns))
    ] ∙ sym (place-push x 0 (length ns) ns n (omega (arith)))

pub place-next : (x : Id) (es new : List (Key × ℕ)) (k : Key) (j : ℕ) (ns : List (N.Name Place)) (n : N.Name Place) → ((y : Id) → place_in es y ≡ place_from y 0 ns)
    → is_some (place_in es n.id) ≡ false → new ≡ insert_entry (λ p q. bytes_eq (ident_of p) (ident_of q)) es k j → ident_of k ≡ n.id → j ≡ length ns
    → place_in new x ≡ place_from x 0 (ns ++ (n ∷ []))
place-next x es new k j ns n h none e key at =
    ap (λ l. place_in l x) e ∙ given ident_of x es k j ∙ ap (λ y. cond (bytes_eq x y) (Some j) (place_in es x)) key
    ∙ elim (id_tells x n.id) [
      | inl y ↦ ap (λ b. cond b (Some j) (place_in es x)) y.0
          ∙ sym (ap (λ o. option_or o (cond (bytes_eq x n.id) (Some j) None)) (sym (h x) ∙ ap (place_in es) y.1 ∙ no-entry (place_in es n.id) none) ∙ ap (λ b. cond b (Some j) None) y.0)
      | inr y ↦ ap (λ b. cond b (Some j) (place_in es x)) y.0 ∙ h x
          ∙ sym (ap (λ b. option_or (place_from x 0 ns) (cond b (Some j) None)) y.0 ∙ or-none (place_from x 0 ns))
    ] ∙ sym (place-push x 0 j ns n (omega (arith, at)))

-- variables that are taken, one after the other

pub get-mapped : {A B : Type 0} (f : A → B) (xs : List A) (k : ℕ) → slice_get (map f xs) k ≡ option_map f (slice_get xs k)
get-mapped f [] k = refl
get-mapped f (x ∷ xs) zero = refl
get-mapped f (x ∷ xs) (suc k) = get-mapped f xs k

get-before : {A : Type 0} (xs ys : List A) (k : ℕ) (x : A) → slice_get xs k ≡ Some x → slice_get (xs ++ ys) k ≡ Some x
get-before [] ys k x h = cc
get-before (y ∷ xs) ys zero x h = h
get-before (y ∷ xs) ys (suc k) x h = get-before xs ys k x h

-- those that were taken keep their places
pub taken-stays : (old new : List Key) (v : Key) (x : Id) (k : ℕ) → new ≡ insert_key (λ p q. bytes_eq (ident_of p) (ident_of q)) old v
    → slice_get (map ident_of old) k ≡ Some x → slice_get (map ident_of new) k ≡ Some x
taken-stays old new v x k e h =
    ap (λ l. slice_get (map ident_of l) k) e ∙ go (list_any (λ q. bytes_eq (ident_of v) (ident_of q)) old)
  where
    go : (b : Bool) → slice_get (map ident_of (if b then old else old ++ v ∷ [])) k ≡ Some x
    go true = h
    go false = ap (λ l. slice_get l k) (map-append ident_of old (v ∷ [])) ∙ get-before (map ident_of old) (ident_of v ∷ []) k x h

-- what was taken stands at its place
pub taken-at : (keys : List Key) (k : ℕ) (key v : Key) (x : Id) → slice_get keys k ≡ Some key → bytes_eq (ident_of v) (ident_of key) ≡ true → ident_of v ≡ x
    → slice_get (map ident_of keys) k ≡ Some x
taken-at keys k key v x at same e = get-mapped ident_of keys k ∙ ap (option_map ident_of) at ∙ ap (λ y. Some y) (sym (id_same (ident_of v) (ident_of key) same) ∙ e)
