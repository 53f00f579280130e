-- What is left, after what was made, is what all are.
use Rattle.std.proofs.Common.{◌≡◌, map, drop}
use Rattle.std.specs.Option.{option_map}
use Rattle.sml_tree.specs.Trees.{and_exp}
use Rattle.sml_tree.specs.Views.{exp_of}
use Rattle.sml_tree.specs.ExpressionViews as whole
use Rattle.sml_piece_trees.specs.Piece.{exps_piece}
use Rattle.sml_piece_trees.proofs.Made.{front}
use Rattle.sml_piece_trees.proofs.expressions.+exp_piece.Given as goal

abbrev pub invariant-exps_piece-loop-exp : goal.invariant-exps_piece-loop-exp
invariant-exps_piece-loop-exp l =
    exps_piece (whole.exps_of (map whole.exp_of l.exps)) ≡ option_map (front and_exp (map exp_of l.made.items)) (exps_piece (whole.exps_of (map whole.exp_of (drop l.exp-index l.exps))))
