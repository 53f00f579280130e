use Rattle.std.proofs.Common.{◌≡◌, map, take}
use Rattle.sml_tree.specs.Views.{ident_of}
use Rattle.sml_piece_trees.proofs.names.copied.Given as goal

abbrev pub invariant-loop-name : goal.invariant-loop-name
invariant-loop-name l = map ident_of l.path.items ≡ map ident_of (take l.name-index l.name-items)
