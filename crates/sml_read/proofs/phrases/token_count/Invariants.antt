-- The tokens so far, and those of what is left.
use Rattle.std.proofs.Common.{◌≡◌, ◌≤◌, ◌+◌, drop}
use Rattle.sml_read.specs.Extents.{tokens_in}
use Rattle.sml_read.proofs.phrases.token_count.Given as goal

abbrev pub invariant-loop-node : goal.invariant-loop-node
invariant-loop-node l = record {
  left : l.count + tokens_in (drop l.node-index l.nodes) ≡ tokens_in l.nodes;
  within : l.count ≤ l.node-index;
}
