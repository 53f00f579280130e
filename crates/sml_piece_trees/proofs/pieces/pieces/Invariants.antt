use Rattle.std.proofs.Common.{◌≡◌, map, take}
use Rattle.sml_tree.specs.Views.{dec_of}
use Rattle.sml_tree.specs.StructureViews.{top_of}
use Rattle.sml_piece_trees.specs.Piece.{piece_of}
use Rattle.sml_piece_trees.proofs.pieces.pieces.Given as goal

abbrev pub invariant-loop-top : goal.invariant-loop-top
invariant-loop-top l = map dec_of l.decs.items ≡ map piece_of (map top_of (take l.top-index l.tops))
