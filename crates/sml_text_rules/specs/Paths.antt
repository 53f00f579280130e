-- The paths at which type names stand in an environment.
use Rattle.std.specs.Prelude.{Bool, not, ◌&&◌, cond, List, [], ◌∷◌, length, codes, Option, Some, None}
use Rattle.std.specs.Option.{option_map}
use Rattle.std.specs.Ordering.{nat_cmp, ordering_then}
use Rattle.std.specs.declared.cmp.Ordering.{Ordering}
use Rattle.sml_tree.specs.Trees.{Id, LongId}
use Rattle.sml_objects.specs.Maps.{by_order, order_of}
use Rattle.sml_objects.specs.Names.{Naming}
use Rattle.sml_rules.specs.Answers.{dotted}
use Rattle.sml_core_rules.specs.Lookups.{is_listed}
use Rattle.sml_core_rules.specs.Objects.{Env, Value, TyStr}
use Rattle.sml_module_rules.specs.Bound.{is_of}
use Rattle.sml_module_rules.specs.Lines.{Line, a_structure, a_type, a_value, lines, path_of}
use Rattle.sml_core_rules.specs.Functions.{name_of}

-- In a reply these mean the initial types, whatever they are bound to.
abbrev pub is_initial_path : LongId → Bool
is_initial_path x = is_listed (dotted (path_of x)) initial_paths
  where
    initial_paths : List Id
    initial_paths =
        codes "int" ∷ codes "word" ∷ codes "char" ∷ codes "string" ∷ codes "bool" ∷ codes "exn" ∷ codes "real" ∷ codes "list" ∷ codes "ref"
        ∷ codes "unit" ∷ []

-- fewer parts first, and of as many the one whose text is first in byte order
abbrev pub path_order : LongId → LongId → Ordering
path_order x y = ordering_then (nat_cmp (length (path_of x)) (length (path_of y))) (order_of (dotted (path_of x)) (dotted (path_of y)))

abbrev pub lesser : LongId → Option LongId → LongId
lesser x None = x
lesser x (Some y) = by_order (path_order x y) x x y

abbrev pub least : List LongId → Option LongId
least [] = None
least (x ∷ xs) = Some (lesser x (least xs))

module _ {N : Type 0} (names : Naming N) (n : N) where
  -- the paths of types whose functions are this name, applied to its parameters in order
  abbrev pub paths_among : List (Line (TyStr N) (Value N)) → List LongId
  paths_among [] = []
  paths_among ((x, a_structure) ∷ ls) = paths_among ls
  paths_among ((x, a_value v) ∷ ls) = paths_among ls
  paths_among ((x, a_type t) ∷ ls) =
      cond (is_of names n (name_of t.function) && not (is_initial_path x)) (x ∷ paths_among ls) (paths_among ls)

  -- the text of the least of them
  abbrev pub path_in : Env N → Option (List Id)
  path_in E = option_map path_of (least (paths_among (lines [] E)))
