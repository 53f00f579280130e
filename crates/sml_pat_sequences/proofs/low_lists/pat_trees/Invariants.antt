use Rattle.std.proofs.Common.{◌≡◌, ◌++◌, map, reverse, length}
use Rattle.sml_tree.specs.PatternViews.{pat_of}
use Rattle.sml_pat_sequences.specs.LowViews.{low_pat_of}
use Rattle.sml_pat_sequences.proofs.low_lists.pat_trees.Given as goal

abbrev pub invariant-loop-pat : goal.invariant-loop-pat
invariant-loop-pat l = map pat_of l.trees.items ++ map low_pat_of (reverse l.pats.items) ≡ map low_pat_of (reverse l.fn.pats.trees.items)

abbrev pub decreases-loop-pat : goal.decreases-loop-pat
decreases-loop-pat l = length l.pats.items
