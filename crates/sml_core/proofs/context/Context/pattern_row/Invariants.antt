use Rattle.std.proofs.Common.{◌≡◌, map}
use Rattle.sml_core.proofs.context.Context.pattern_row.Given as goal

abbrev pub invariant-loop-label : goal.invariant-loop-label
invariant-loop-label l = l.demanded.items ≡ map (λ e. (e.0.1, e.1)) l.yielded
