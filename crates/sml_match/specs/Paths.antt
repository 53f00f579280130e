-- The path of the component at hand.
use Rattle.std.specs.Prelude.{List, map}
use Rattle.sml_tree.specs.Trees.{Id}
use Rattle.sml_tree.specs.Views.{ident_of}
use Rattle.sml_match.specs.declared.way.Way.{Way}

abbrev pub path_in : Way → List Id
path_in w = map ident_of w.idents.items
