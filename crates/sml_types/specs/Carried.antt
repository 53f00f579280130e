-- What type names carry after the names of datatypes were let carry their constructors.
use Rattle.std.specs.Prelude.{Bool, ◌&&◌, cond, List, [], ◌∷◌, Option, Some, None}
use Rattle.sml_tree.specs.Trees.{Id}
use Rattle.sml_objects.specs.Initial.{Name}
use Rattle.sml_objects.specs.Maps.{Map}
use Rattle.sml_core_rules.specs.Objects.{TyStr, identifiers}
use Rattle.sml_core_rules.specs.Functions.{name_of as named_by}
use Rattle.sml_type_maps.specs.NewNames.{same_number, unless_none}

module _ (is_new : Name → Bool) where
  -- a new name that has the number of this one carries these identifiers, if there are any
  abbrev pub carries_one : Option Name → Option (List Id) → (Name → Option (List Id)) → Name → Option (List Id)
  carries_one None xs f n = f n
  carries_one (Some m) None f n = f n
  carries_one (Some m) (Some xs) f n = cond (is_new n && same_number n m) (Some xs) (f n)

  -- the names of all these datatypes, in their order
  abbrev pub carries_all : Map (TyStr Name) → (Name → Option (List Id)) → Name → Option (List Id)
  carries_all [] f n = f n
  carries_all (e ∷ es) f n = carries_all es (carries_one (named_by e.1.function) (unless_none (identifiers e.1.constructors)) f) n
