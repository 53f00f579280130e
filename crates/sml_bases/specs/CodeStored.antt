-- What is stored in the maps of the program, found by an identifier.
use Rattle.std.specs.Prelude.{ℕ, Vec, List, Option}
use Rattle.std.specs.Global.{Global}
use Rattle.std.specs.Map as stored
use Rattle.std.specs.BTreeMap.{is_at}
use Rattle.std.specs.declared.rc.Rc.{Rc}
use Rattle.sml_tree.specs.Trees.{Id}
use Rattle.sml_tree.specs.Views.{ident_of}
use Rattle.sml_objects.specs.Maps.{order_of}

-- what is stored at an identifier
abbrev pub stored_in : {X : Type 0} → Id → List (Rc (Vec ℕ Global) Global × X) → Option X
stored_in x es = stored.lookup (is_at (λ y. order_of x (ident_of y))) es

abbrev pub stored_at : {A X : Type 0} → (A → List (Rc (Vec ℕ Global) Global × X)) → Id → A → Option X
stored_at f x a = stored_in x (f a)
