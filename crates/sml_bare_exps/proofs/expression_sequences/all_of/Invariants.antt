use Rattle.std.proofs.Common.{◌≡◌, map, reverse, length}
use Rattle.sml_bare_exps.specs.ExpressionSequences.{all_of, joined}
use Rattle.sml_bare_exps.specs.ExpressionViews.{low_exp_of}
use Rattle.sml_bare_exps.proofs.expression_sequences.all_of.Given as goal

abbrev pub invariant-loop-function : goal.invariant-loop-function
invariant-loop-function l =
    all_of (map low_exp_of (reverse l.fn.stack.items)) ≡ joined (low_exp_of l.exp) (map low_exp_of (reverse l.stack.items))

abbrev pub decreases-loop-function : goal.decreases-loop-function
decreases-loop-function l = length l.stack.items
