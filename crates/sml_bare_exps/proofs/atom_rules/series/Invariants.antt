use Rattle.std.proofs.Common.{◌≡◌, map, reverse, length}
use Rattle.sml_tree.specs.ExpressionViews.{exps_of}
use Rattle.sml_derived.specs.Derived.{sequence_of}
use Rattle.sml_bare_exps.specs.ExpressionRules.{series_of}
use Rattle.sml_bare_exps.specs.ExpressionViews.{low_exp_of}
use Rattle.sml_bare_exps.proofs.ExpressionLists.{onto}
use Rattle.sml_bare_exps.proofs.atom_rules.series.Given as goal

abbrev pub invariant-loop-exp : goal.invariant-loop-exp
invariant-loop-exp l =
    series_of l.fn.place (exps_of (map low_exp_of (reverse l.fn.exps.items)))
    ≡ onto (sequence_of l.fn.place) (low_exp_of l.whole) (map low_exp_of (reverse l.exps.items))

abbrev pub decreases-loop-exp : goal.decreases-loop-exp
decreases-loop-exp l = length l.exps.items
