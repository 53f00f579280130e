-- The nodes that were added lead to what is on the stack.
use Rattle.std.proofs.Common.{◌≡◌, List, ◌++◌, reverse}
use Rattle.sml_read.specs.declared.grammar.Node.{Node}
use Rattle.sml_read.specs.CodeSteps.{cost, Completes}
use Rattle.sml_read.proofs.read.complete.Given as goal

abbrev pub invariant-loop-next : goal.invariant-loop-next
invariant-loop-next l =
    (added : List Node) × (l.nodes.items ≡ l.fn.nodes.items ++ added) × Completes (reverse l.fn.stack.items) l.next added (reverse l.stack.items)

abbrev pub decreases-loop-next : goal.decreases-loop-next
decreases-loop-next l = cost (reverse l.stack.items)
