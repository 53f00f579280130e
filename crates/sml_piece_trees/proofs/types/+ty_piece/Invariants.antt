-- What is left, after what was made, is what all are.
use Rattle.std.proofs.Common.{◌≡◌, map, drop}
use Rattle.std.specs.Option.{option_map}
use Rattle.sml_tree.specs.Trees.{and_ty}
use Rattle.sml_tree.specs.Views.{ty_of}
use Rattle.sml_tree.specs.TypeViews as whole
use Rattle.sml_piece_trees.specs.Piece.{tys_piece}
use Rattle.sml_piece_trees.proofs.Made.{front}
use Rattle.sml_piece_trees.proofs.types.+ty_piece.Given as goal

abbrev pub invariant-tys_piece-loop-ty : goal.invariant-tys_piece-loop-ty
invariant-tys_piece-loop-ty l =
    tys_piece (whole.tys_of (map whole.ty_of l.tys)) ≡ option_map (front and_ty (map ty_of l.made.items)) (tys_piece (whole.tys_of (map whole.ty_of (drop l.ty-index l.tys))))
