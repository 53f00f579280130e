use Rattle.std.proofs.Common.{◌≡◌, ◌++◌, map, reverse, length}
use Rattle.sml_tree.specs.TypeViews.{ty_of}
use Rattle.sml_pat_sequences.specs.LowViews.{low_ty_of}
use Rattle.sml_pat_sequences.proofs.low_lists.ty_trees.Given as goal

abbrev pub invariant-loop-ty : goal.invariant-loop-ty
invariant-loop-ty l = map ty_of l.trees.items ++ map low_ty_of (reverse l.types.items) ≡ map low_ty_of (reverse l.fn.types.trees.items)

abbrev pub decreases-loop-ty : goal.decreases-loop-ty
decreases-loop-ty l = length l.types.items
