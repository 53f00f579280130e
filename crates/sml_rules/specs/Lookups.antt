-- What long identifiers find (the Definition, section 4.3).
use Rattle.std.specs.Prelude.{List, [], ◌∷◌, ◌++◌, Option, Some, None}
use Rattle.sml_tree.specs.Trees.{Id, LongId}
use Rattle.sml_objects.specs.Maps.{lookup}
use Rattle.sml_objects.specs.Objects.{Scheme, Env, structures, types, values, find_structure}

-- an entry, or the shortest prefix of the path that leads nowhere, or no entry at the path's end
pub data Found (X : Type 0) : Type 0 where
  found : X → Found X
  no_path : List Id → Found X
  no_entry : Found X

abbrev pub entry : {X : Type 0} → Option X → Found X
entry None = no_entry
entry (Some x) = found x

abbrev pub found_in : {N X : Type 0} → List Id → (Env N → Found X) → Option (Env N) → Found X
found_in seen look None = no_path seen
found_in seen look (Some E) = look E

-- along a path, after the structures seen so far
unfoldable pub find_at : {N X : Type 0} → (Env N → Option X) → List Id → List Id → Env N → Found X
find_at pick seen [] E = entry (pick E)
find_at pick seen (s ∷ path) E = found_in (seen ++ s ∷ []) (find_at pick (seen ++ s ∷ []) path) (find_structure s (structures E))

unfoldable pub value_at : {N : Type 0} → Env N → LongId → Found (Scheme N)
value_at E x = find_at (λ E. lookup x.last (values E)) [] x.path E

unfoldable pub type_at : {N : Type 0} → Env N → LongId → Found (Scheme N)
type_at E c = find_at (λ E. lookup c.last (types E)) [] c.path E
