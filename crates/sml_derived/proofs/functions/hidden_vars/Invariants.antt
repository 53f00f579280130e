use Rattle.std.proofs.Common.{◌≡◌, map}
use Rattle.sml_tree.specs.ExpressionViews.{exp_of, exps_of}
use Rattle.sml_derived.specs.Derived.{hidden_from}
use Rattle.sml_derived.proofs.functions.hidden_vars.Given as goal

abbrev pub invariant-loop-before : goal.invariant-loop-before
invariant-loop-before l = exps_of (map exp_of l.exps.items) ≡ hidden_from l.fn.place 1 l.before
