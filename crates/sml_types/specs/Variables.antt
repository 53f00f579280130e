-- What type variables stand for.
use Rattle.std.specs.Prelude.{◌≡◌, ℕ, suc, Bool, cond, List, [], ◌∷◌, map, slice_get, Option, None, Some, Vec}
use Rattle.std.specs.Global.{Global}
use Rattle.std.specs.Map.{lookup}
use Rattle.std.specs.Option.{option_map}
use Rattle.std.specs.Str.{bytes_eq}
use Rattle.std.specs.declared.rc.Rc.{Rc}
use Rattle.sml_lex.specs.declared.fault.Place.{Place}
use Rattle.sml_tree.specs.Trees.{Id}
use Rattle.sml_tree.specs.Names.{Name}
use Rattle.sml_tree.specs.Views.{ident_of}
use Rattle.sml_objects.specs.Initial as I
use Rattle.sml_objects.specs.Maps as M
use Rattle.sml_objects.specs.Objects as O
use Rattle.sml_types.specs.declared.variables.Collected.{Collected}
use Rattle.sml_types.specs.declared.variables.Listed.{Listed}

-- the place of the first of these names that is this one, from k on
abbrev pub place_from : Id → ℕ → List (Name Place) → Option ℕ
place_from x k [] = None
place_from x k (n ∷ ns) = cond (bytes_eq x n.id) (Some k) (place_from x (suc k) ns)

-- what a table has for an identifier
abbrev pub place_in : List (Rc (Vec ℕ Global) Global × ℕ) → Id → Option ℕ
place_in es x = lookup (λ k. bytes_eq x (ident_of k)) es

abbrev pub at_place : Bool → ℕ → O.MlType I.Name
at_place bound k = cond bound (O.bound k) (O.free k)

-- the types that stand for the variables of a list, and for no others
abbrev pub AreListed : Listed → M.Map (O.MlType I.Name) → Type 0
AreListed l vs = (x : Id) → M.lookup x vs ≡ option_map (at_place l.are_bound) (place_in l.places.entries x)

-- the variables that were taken, in the order of their first appearance
abbrev pub collected : Collected → List Id
collected c = map ident_of c.names.keys

-- each variable that was taken is the free one of its place; more may be taken
abbrev pub AreCollected : Collected → M.Map (O.MlType I.Name) → Type 0
AreCollected c vs = (x : Id) (k : ℕ) → slice_get (collected c) k ≡ Some x → M.lookup x vs ≡ Some (O.free k)
