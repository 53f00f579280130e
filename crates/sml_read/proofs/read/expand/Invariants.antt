-- The symbols so far are on the stack, and there is room for the others.
use Rattle.std.proofs.Common.{◌≡◌, ◌++◌, ◌+◌, ◌≤◌, length, take, vec_len, vec_capacity}
use Rattle.sml_read.proofs.read.expand.Given as goal

abbrev pub invariant-loop-i : goal.invariant-loop-i
invariant-loop-i l = record {
  kept : l.stack.items ≡ l.fn.stack.items ++ take l.i l.side;
  within : l.i ≤ length l.side;
  room : vec_len l.stack + length l.side ≤ vec_capacity l.stack + l.i;
}
