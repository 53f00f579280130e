-- Type variables that are gathered, each once, in the order in which they first stand in phrases.
use Rattle.std.specs.Prelude.{ℕ, List, map, Vec}
use Rattle.std.specs.Global.{Global}
use Rattle.std.specs.Str.{bytes_eq}
use Rattle.std.specs.declared.rc.Rc.{Rc}
use Rattle.indexmap.specs.IndexSet.{insert_all}
use Rattle.sml_tree.specs.Trees.{Id}
use Rattle.sml_tree.specs.Views.{ident_of}

-- some, and after them those of others that are not among them
abbrev pub with_all : List Id → List Id → List Id
with_all = insert_all bytes_eq

abbrev pub ids_of : List (Rc (Vec ℕ Global) Global) → List Id
ids_of = map ident_of
