use Rattle.std.proofs.Common.{◌≡◌, map, reverse, length}
use Rattle.sml_tree.specs.ExpressionViews.{exps_of}
use Rattle.sml_derived.specs.Derived.{cons_of}
use Rattle.sml_bare_exps.specs.ExpressionRules.{list_of}
use Rattle.sml_bare_exps.specs.ExpressionViews.{low_exp_of}
use Rattle.sml_bare_exps.proofs.ExpressionLists.{onto}
use Rattle.sml_bare_exps.proofs.atom_rules.list.Given as goal

abbrev pub invariant-loop-exp : goal.invariant-loop-exp
invariant-loop-exp l =
    list_of l.fn.place (exps_of (map low_exp_of (reverse l.fn.exps.items)))
    ≡ onto (cons_of l.fn.place) (low_exp_of l.whole) (map low_exp_of (reverse l.exps.items))

abbrev pub decreases-loop-exp : goal.decreases-loop-exp
decreases-loop-exp l = length l.exps.items
