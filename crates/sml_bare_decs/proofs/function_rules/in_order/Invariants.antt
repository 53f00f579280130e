use Rattle.std.proofs.Common.{◌≡◌, map}
use Rattle.sml_tree.specs.PatternViews.{pat_of}
use Rattle.sml_bare_decs.proofs.function_rules.in_order.Given as goal

abbrev pub invariant-loop-pat : goal.invariant-loop-pat
invariant-loop-pat l = map pat_of l.all.items ≡ map (λ q. pat_of q.tree) l.yielded
