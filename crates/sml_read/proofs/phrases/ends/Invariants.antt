-- The ends of the nodes so far, and those of the trees to come.
use Rattle.std.proofs.Common.{◌≡◌, drop, reverse}
use Rattle.sml_read.specs.Extents.{ends_of}
use Rattle.sml_read.proofs.Extents.{Ends}
use Rattle.sml_read.proofs.phrases.ends.Given as goal

abbrev pub invariant-loop-i : goal.invariant-loop-i
invariant-loop-i l = record {
  kept : reverse l.ends.items ≡ ends_of l.i (drop l.i l.nodes);
  later : Ends l.nodes l.i (reverse l.later.items);
}
