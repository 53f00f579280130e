use Rattle.std.proofs.Common.{◌≡◌, map, reverse, length, get_or, drop}
use Rattle.sml_pat_sequences.specs.PatternSequences.{no_operand, joined}
use Rattle.sml_pat_sequences.specs.LowViews.{low_pat_of}
use Rattle.sml_pat_sequences.proofs.pattern_sequences.joined.Given as goal

-- what is left to do makes the whole
abbrev pub invariant-loop-pat : goal.invariant-loop-pat
invariant-loop-pat l =
    joined (low_pat_of l.whole) (map low_pat_of (reverse l.stack.items))
    ≡ joined (get_or (map low_pat_of (reverse l.fn.stack.items)) 0 no_operand) (drop 1 (map low_pat_of (reverse l.fn.stack.items)))

abbrev pub decreases-loop-pat : goal.decreases-loop-pat
decreases-loop-pat l = length l.stack.items
