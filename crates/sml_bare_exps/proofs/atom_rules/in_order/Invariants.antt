use Rattle.std.proofs.Common.{◌≡◌, map}
use Rattle.sml_tree.specs.ExpressionViews.{exp_of}
use Rattle.sml_bare_exps.specs.ExpressionViews.{low_exp_of}
use Rattle.sml_bare_exps.proofs.atom_rules.in_order.Given as goal

abbrev pub invariant-loop-exp : goal.invariant-loop-exp
invariant-loop-exp l = map exp_of l.trees.items ≡ map low_exp_of l.yielded
