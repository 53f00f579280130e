-- What long identifiers find (the Definition, section 4.3).
use Rattle.std.specs.Prelude.{Bool, true, false, ◌||◌, List, [], ◌∷◌, ◌++◌, Option, Some, None}
use Rattle.sml_tree.specs.Trees.{Id, LongId}
use Rattle.sml_objects.specs.Maps.{lookup, by_order, order_of}
use Rattle.sml_rules.specs.Lookups.{Found, found, no_path, no_entry, entry}
use Rattle.sml_core_rules.specs.Objects.{Maps, Env, Value, Status, TyStr, structures, types, values, find_structure}

abbrev pub found_in : {T V X : Type 0} → List Id → (Maps T V → Found X) → Option (Maps T V) → Found X
found_in seen look None = no_path seen
found_in seen look (Some E) = look E

-- along a path, after the structures seen so far
unfoldable pub find_at : {T V X : Type 0} → (Maps T V → Option X) → List Id → List Id → Maps T V → Found X
find_at pick seen [] E = entry (pick E)
find_at pick seen (s ∷ path) E = found_in (seen ++ s ∷ []) (find_at pick (seen ++ s ∷ []) path) (find_structure s (structures E))

unfoldable pub value_at : {N : Type 0} → Env N → LongId → Found (Value N)
value_at E x = find_at (λ E. lookup x.last (values E)) [] x.path E

abbrev pub found_status : {N : Type 0} → Found (Value N) → Option Status
found_status (found v) = Some v.status
found_status (no_path s) = None
found_status no_entry = None

-- the status of a long identifier of a value, if it is bound
abbrev pub status_at : {N : Type 0} → Env N → LongId → Option Status
status_at E x = found_status (value_at E x)

unfoldable pub type_at : {N : Type 0} → Env N → LongId → Found (TyStr N)
type_at E c = find_at (λ E. lookup c.last (types E)) [] c.path E

-- the structure of the last identifier too
unfoldable pub structure_at : {N : Type 0} → Env N → LongId → Found (Env N)
structure_at E s = find_at (λ E. Some E) [] (s.path ++ s.last ∷ []) E

abbrev pub is_same : Id → Id → Bool
is_same x y = by_order (order_of x y) false true false

abbrev pub is_listed : Id → List Id → Bool
is_listed x [] = false
is_listed x (y ∷ ys) = is_same x y || is_listed x ys
