-- What is left, after what was made, is what all are.
use Rattle.std.proofs.Common.{◌≡◌, ◌∷◌, map, drop}
use Rattle.std.specs.Option.{option_map}
use Rattle.sml_tree.specs.Views.{core_dec_of}
use Rattle.sml_tree.specs.StructureViews.{str_decs_of, str_dec_of}
use Rattle.sml_piece_trees.specs.Piece.{str_decs_piece}
use Rattle.sml_piece_trees.proofs.Made.{front}
use Rattle.sml_piece_trees.proofs.pieces.str_decs_piece.Given as goal

abbrev pub invariant-loop-dec : goal.invariant-loop-dec
invariant-loop-dec l =
    str_decs_piece (str_decs_of (map str_dec_of l.decs)) ≡ option_map (front ◌∷◌ (map core_dec_of l.made.items)) (str_decs_piece (str_decs_of (map str_dec_of (drop l.dec-index l.decs))))
