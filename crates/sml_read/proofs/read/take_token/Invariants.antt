-- The nodes that were added lead to what is on the stack.
use Rattle.std.proofs.Common.{◌≡◌, List, ◌++◌, reverse}
use Rattle.sml_read.specs.declared.grammar.Node.{Node}
use Rattle.sml_read.specs.CodeSteps.{cost}
use Rattle.sml_read.proofs.Trees.{Expands}
use Rattle.sml_read.proofs.read.take_token.Given as goal

abbrev pub invariant-loop-top : goal.invariant-loop-top
invariant-loop-top l =
    (added : List Node) × (l.nodes.items ≡ l.fn.nodes.items ++ added) × Expands (reverse l.fn.stack.items) l.kind added (reverse l.stack.items)

abbrev pub decreases-loop-top : goal.decreases-loop-top
decreases-loop-top l = cost (reverse l.stack.items)
