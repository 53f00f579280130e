use Rattle.std.proofs.Common.{length}
use Rattle.sml_client.proofs.Lines.{HeadSoFar}
use Rattle.sml_client.proofs.heads.head_of.Given as goal

abbrev pub invariant-lines : goal.invariant-lines
invariant-lines l = HeadSoFar l.bytes l.rest l.length l.is_first

abbrev pub decreases-lines : goal.decreases-lines
decreases-lines l = length l.rest
