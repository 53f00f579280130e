-- The runs that are left have all the symbols after this run.
use Rattle.std.proofs.Common.{◌≡◌, reverse}
use Rattle.sml_flaws.specs.CodeContexts.{contexts_in}
use Rattle.sml_flaws.proofs.mark.next_run.Given as goal

abbrev pub invariant-loop-run : goal.invariant-loop-run
invariant-loop-run l = contexts_in (reverse l.fn.runs.after.items) ≡ contexts_in (reverse l.runs.after.items)

abbrev pub decreases-loop-run : goal.decreases-loop-run
decreases-loop-run l = goal.left-loop-run l
