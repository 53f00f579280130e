-- What is left of the comments.
use Rattle.std.proofs.Common.{◌≡◌, ◌-◌, ◌+◌, ◌≤◌, ◌<◌, drop, length}
use Rattle.sml_lex.specs.CodeComments.{after_comments}
use Rattle.sml_lex.proofs.pieces.comment_end.Given as goal

abbrev pub invariant-loop-place : goal.invariant-loop-place
invariant-loop-place l = record {
  rest : after_comments l.depth (drop l.place l.bytes) ≡ after_comments 1 (drop l.start l.bytes);
  some : 0 < l.depth;
  few : l.depth ≤ l.place + 1;
  before : l.start ≤ l.place;
  within : l.place ≤ length l.bytes;
}

abbrev pub decreases-loop-place : goal.decreases-loop-place
decreases-loop-place l = length l.bytes - l.place
