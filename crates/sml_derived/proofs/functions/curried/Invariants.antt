use Rattle.std.proofs.Common.{◌≡◌, ◌-◌}
use Rattle.sml_tree.specs.ExpressionViews.{exp_of}
use Rattle.sml_derived.specs.Derived.{curried}
use Rattle.sml_derived.proofs.functions.curried.Given as goal

abbrev pub invariant-loop-made : goal.invariant-loop-made
invariant-loop-made l = curried l.fn.place 1 (l.fn.count - l.made) (exp_of l.exp) ≡ curried l.fn.place 1 l.fn.count (exp_of l.fn.body)
