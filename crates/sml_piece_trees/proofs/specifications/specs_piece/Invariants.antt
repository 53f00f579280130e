-- What is left, after what was made, is what all are.
use Rattle.std.proofs.Common.{◌≡◌, ◌∷◌, map, drop}
use Rattle.std.specs.Option.{option_map}
use Rattle.sml_tree.specs.Views.{spec_of}
use Rattle.sml_tree.specs.SignatureViews as whole
use Rattle.sml_piece_trees.specs.Piece.{specs_piece}
use Rattle.sml_piece_trees.proofs.Made.{front}
use Rattle.sml_piece_trees.proofs.specifications.specs_piece.Given as goal

abbrev pub invariant-loop-specification : goal.invariant-loop-specification
invariant-loop-specification l =
    specs_piece (whole.specs_of (map whole.spec_of l.specs)) ≡ option_map (front ◌∷◌ (map spec_of l.made.items)) (specs_piece (whole.specs_of (map whole.spec_of (drop l.specification-index l.specs))))
