-- What is found in the entries of a map of the program with one more, or with one less.
use Rattle.std.proofs.Common.{◌≡◌, ℕ, List, [], ◌∷◌, Option, Some, None, refl, ap, sym, ◌∙◌, Vec, Global, cond}
use Rattle.std.specs.Option.{option_map}
use Rattle.std.specs.Ordering.{is_eq}
use Rattle.std.specs.Map as stored
use Rattle.std.specs.BTreeMap.{insert_entry}
use Rattle.std.specs.declared.cmp.Ordering.{Ordering}
use Rattle.std.specs.declared.cmp.Ordering.TheVariants.{Less, Equal, Greater}
use Rattle.std.specs.declared.rc.Rc.{Rc}
use Rattle.sml_tree.specs.Trees.{Id}
use Rattle.sml_tree.specs.Views.{ident_of}
use Rattle.sml_objects.specs.Maps.{lookup, order_of, by_order}
use Rattle.sml_objects.specs.Views.{entries_of}
use Rattle.sml_objects.proofs.EnvViews.{entries-put}
use Rattle.sml_bases.specs.CodeStored.{stored_in}
use Rattle.sml_objects.proofs.Puts.{at, lookup-put, same_ident}

abbrev pub Ident : Type 0
Ident = Rc (Vec ℕ Global) Global

abbrev pub Stored : Type 0 → Type 0
Stored X = List (Ident × X)

pub stored-seen : {X Y : Type 0} (view : X → Y) (x : Id) (es : Stored X) → option_map view (stored_in x es) ≡ lookup x (entries_of view es)
stored-seen view x [] = refl
stored-seen view x (e ∷ es) =
    elim (order_of x (ident_of e.0)) as (λ o. option_map view (cond (is_eq o) (Some e.1) (stored_in x es)) ≡ by_order o (lookup x (entries_of view es)) (Some (view e.1)) (lookup x (entries_of view es))) [
      | Less ↦ stored-seen view x es
      | Equal ↦ refl
      | Greater ↦ stored-seen view x es
    ]

as-it-is : {X : Type 0} (o : Option X) → option_map (λ v. v) o ≡ o
as-it-is None = refl
as-it-is (Some v) = refl

stored-lookup : {X : Type 0} (x : Id) (es : Stored X) → stored_in x es ≡ lookup x (entries_of (λ v. v) es)
stored-lookup x es = sym (as-it-is (stored_in x es)) ∙ stored-seen (λ v. v) x es

pub stored-put : {X : Type 0} (x : Id) (es : Stored X) (k : Ident) (v : X)
    → stored_in x (insert_entry (λ a b. order_of (ident_of a) (ident_of b)) es k v) ≡ at (order_of x (ident_of k)) (Some v) (stored_in x es)
stored-put x es k v =
    stored-lookup x (insert_entry (λ a b. order_of (ident_of a) (ident_of b)) es k v)
    ∙ ap (lookup x) (entries-put (λ w. w) es k v)
    ∙ lookup-put x (ident_of k) v (entries_of (λ w. w) es)
    ∙ ap (at (order_of x (ident_of k)) (Some v)) (sym (stored-lookup x es))

-- an entry of another identifier is passed over
passed : {X : Type 0} (o : Ordering) (v : X) (rest : Option X) → (o ≡ Equal → ⊥) → rest ≡ cond (is_eq o) (Some v) rest
passed Less v rest h = refl
passed Equal v rest h = absurd (h refl)
passed Greater v rest h = refl

one-ident : (x k y : Id) → order_of k y ≡ Equal → order_of x y ≡ Equal → order_of x k ≡ Equal
one-ident x k y h e = ap (λ z. order_of x z) (same_ident k y h) ∙ e

apart-by : {X : Type 0} (x k : Id) (e : Ident × X) (es less : Stored X) (o : Ordering) → (order_of x k ≡ Equal → ⊥) → order_of k (ident_of e.0) ≡ o → stored_in x less ≡ stored_in x es
    → stored_in x (cond (is_eq o) es (e ∷ less)) ≡ stored_in x (e ∷ es)
apart-by x k e es less Less n h r = ap (cond (is_eq (order_of x (ident_of e.0))) (Some e.1)) r
apart-by x k e es less Equal n h r = passed (order_of x (ident_of e.0)) e.1 (stored_in x es) (λ q. n (one-ident x k (ident_of e.0) h q))
apart-by x k e es less Greater n h r = ap (cond (is_eq (order_of x (ident_of e.0))) (Some e.1)) r

stored-apart : {X : Type 0} (x k : Id) (es : Stored X) → (order_of x k ≡ Equal → ⊥)
    → stored_in x (stored.remove_entry (λ y. is_eq (order_of k (ident_of y))) es) ≡ stored_in x es
stored-apart x k [] n = refl
stored-apart x k (e ∷ es) n =
    apart-by x k e es (stored.remove_entry (λ y. is_eq (order_of k (ident_of y))) es) (order_of k (ident_of e.0)) n refl (stored-apart x k es n)

-- without an identifier
pub stored-removed : {X : Type 0} (x k : Id) (es fs : Stored X) → fs ≡ stored.remove_entry (λ y. is_eq (order_of k (ident_of y))) es → stored_in k fs ≡ None
    → stored_in x fs ≡ at (order_of x k) None (stored_in x es)
stored-removed x k es fs e gone = go (order_of x k) refl
  where
    go : (o : Ordering) → order_of x k ≡ o → stored_in x fs ≡ at o None (stored_in x es)
    go Less h = ap (stored_in x) e ∙ stored-apart x k es (λ q. cc)
    go Equal h = ap (λ y. stored_in y fs) (same_ident x k h) ∙ gone
    go Greater h = ap (stored_in x) e ∙ stored-apart x k es (λ q. cc)

-- an identifier is bound
pub bound-now : {X : Type 0} (x : Id) (es fs : Stored X) (k : Ident) (v : X) (y : Id) → fs ≡ insert_entry (λ a b. order_of (ident_of a) (ident_of b)) es k v → ident_of k ≡ y
    → stored_in x fs ≡ at (order_of x y) (Some v) (stored_in x es)
bound-now x es fs k v y e key = ap (stored_in x) e ∙ stored-put x es k v ∙ ap (λ z. at (order_of x z) (Some v) (stored_in x es)) key
