-- The state is that of the bytes so far, and best the longest token among them.
use Rattle.std.proofs.Common.{◌≡◌, ◌-◌, ◌≤◌, take, drop, is_some}
use Rattle.sml_lex.specs.Words.{word_kind}
use Rattle.sml_lex.specs.CodeMachine.{run, fresh, IsLongestWithin}
use Rattle.sml_lex.proofs.longest.longest.Given as goal

abbrev pub invariant-loop-i : goal.invariant-loop-i
invariant-loop-i l = record {
  state : l.state ≡ (run fresh (take l.i l.bytes)).state;
  part : take (l.i - l.start) (drop l.start l.bytes) ≡ (run fresh (take l.i l.bytes)).part;
  reserved : l.reserved ≡ is_some (word_kind (run fresh (take l.i l.bytes)).part);
  before : l.start ≤ l.i;
  longest : IsLongestWithin l.bytes l.i l.best;
}
