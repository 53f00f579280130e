-- What is found in an environment extended by one of the program.
use Rattle.std.proofs.Common.{◌≡◌, [], ◌∷◌, Option, Some, None, refl, ap, sym, ◌∙◌}
use Rattle.std.specs.List.{AllByRecursion}
use Rattle.std.specs.List.Sorted.{IsStrictlySortedBy}
use Rattle.std.specs.Map.{keys_of}
use Rattle.std.specs.declared.cmp.Ordering.{Ordering}
use Rattle.std.specs.declared.cmp.Ordering.TheVariants.{Less, Equal, Greater}
use Rattle.sml_tree.specs.Trees.{Id}
use Rattle.sml_tree.specs.Views.{ident_of}
use Rattle.sml_objects.specs.Initial.{Name}
use Rattle.sml_objects.specs.Maps.{Map, by_order, join, lookup, order_of, put}
use Rattle.sml_objects.specs.Views.{entries_of}
use Rattle.sml_bases.specs.Layers.{or_else}
use Rattle.sml_bases.specs.Views.{structures_of}
use Rattle.sml_core_rules.specs.Objects as O
use Rattle.sml_scopes.specs.CodeScopes.{AreRising}
use Rattle.sml_objects.proofs.Puts.{at, lookup-put, same_ident}
use Rattle.sml_scopes.proofs.Stored.{Ident, Stored}

absent : {X Y : Type 0} (view : X → Y) (k : Ident) (es : Stored X) → AllByRecursion (λ y. order_of (ident_of k) (ident_of y) ≡ Less) (keys_of es) → lookup (ident_of k) (entries_of view es) ≡ None
absent view k [] h = refl
absent view k (e ∷ es) h =
    ap (λ o. by_order o (lookup (ident_of k) (entries_of view es)) (Some (view e.1)) (lookup (ident_of k) (entries_of view es))) h.0 ∙ absent view k es h.1

-- an entry that stands first, and is not among the rest
one-first : {X : Type 0} (rest : Option X) (v : X) (old : Option X) (o : Ordering) → (o ≡ Equal → rest ≡ None) → or_else rest (at o (Some v) old) ≡ or_else (at o (Some v) rest) old
one-first rest v old Less h = refl
one-first rest v old Equal h = ap (λ r. or_else r (Some v)) (h refl)
one-first rest v old Greater h = refl

pub join-found : {X Y : Type 0} (view : X → Y) (es : Stored X) (m : Map Y) (x : Id) → AreRising es
    → lookup x (join m (entries_of view es)) ≡ or_else (lookup x (entries_of view es)) (lookup x m)
unfolding IsStrictlySortedBy
join-found view [] m x h = refl
join-found view (e ∷ es) m x h =
    join-found view es (put (ident_of e.0) (view e.1) m) x h.1
    ∙ ap (or_else (lookup x (entries_of view es))) (lookup-put x (ident_of e.0) (view e.1) m)
    ∙ one-first (lookup x (entries_of view es)) (view e.1) (lookup x m) (order_of x (ident_of e.0))
    (λ q. ap (λ y. lookup y (entries_of view es)) (same_ident x (ident_of e.0) q) ∙ absent view e.0 es h.0)

-- Structures, as a map

abbrev listed : {T V : Type 0} → O.Structures T V → Map (O.Maps T V)
listed O.no_structure = []
listed (O.and_structure s E ss) = (s, E) ∷ listed ss

pub find-listed : {T V : Type 0} (ss : O.Structures T V) (x : Id) → O.find_structure x ss ≡ lookup x (listed ss)
find-listed O.no_structure x = refl
find-listed (O.and_structure s E ss) x = ap (λ o. at (order_of x s) (Some E) o) (find-listed ss x)

listed-by : {T V : Type 0} (o : Ordering) (E F : O.Maps T V) (s r : Id) (ss put-ss : O.Structures T V) (m : Map (O.Maps T V)) → listed put-ss ≡ m
    → listed (by_order o (O.and_structure s E (O.and_structure r F ss)) (O.and_structure r E ss) (O.and_structure r F put-ss))
    ≡ by_order o ((s, E) ∷ (r, F) ∷ listed ss) ((r, E) ∷ listed ss) ((r, F) ∷ m)
listed-by Less E F s r ss put-ss m h = refl
listed-by Equal E F s r ss put-ss m h = refl
listed-by Greater E F s r ss put-ss m h = ap (λ l. (r, F) ∷ l) h

listed-put : {T V : Type 0} (ss : O.Structures T V) (s : Id) (E : O.Maps T V) → listed (O.put_structure s E ss) ≡ put s E (listed ss)
listed-put O.no_structure s E = refl
listed-put (O.and_structure r F ss) s E = listed-by (order_of s r) E F s r ss (O.put_structure s E ss) (put s E (listed ss)) (listed-put ss s E)

listed-join : {T V : Type 0} (ss rs : O.Structures T V) → listed (O.join_structures ss rs) ≡ join (listed ss) (listed rs)
listed-join ss O.no_structure = refl
listed-join ss (O.and_structure r E rs) = listed-join (O.put_structure r E ss) rs ∙ ap (λ m. join m (listed rs)) (listed-put ss r E)

pub find-put : {T V : Type 0} (x s : Id) (E : O.Maps T V) (ss : O.Structures T V) → O.find_structure x (O.put_structure s E ss) ≡ at (order_of x s) (Some E) (O.find_structure x ss)
find-put x s E ss =
    find-listed (O.put_structure s E ss) x ∙ ap (lookup x) (listed-put ss s E) ∙ lookup-put x s E (listed ss) ∙ ap (at (order_of x s) (Some E)) (sym (find-listed ss x))

pub find-join : {T V : Type 0} (x : Id) (ss rs : O.Structures T V) → ((m : Map (O.Maps T V)) → lookup x (join m (listed rs)) ≡ or_else (lookup x (listed rs)) (lookup x m))
    → O.find_structure x (O.join_structures ss rs) ≡ or_else (O.find_structure x rs) (O.find_structure x ss)
find-join x ss rs h =
    find-listed (O.join_structures ss rs) x ∙ ap (lookup x) (listed-join ss rs) ∙ h (listed ss)
    ∙ (λ i. or_else (sym (find-listed rs x) i) (sym (find-listed ss x) i))

pub listed-of : (es : Map (O.Env Name)) → listed (structures_of es) ≡ es
listed-of [] = refl
listed-of (e ∷ es) = ap (λ l. (e.0, e.1) ∷ l) (listed-of es)
