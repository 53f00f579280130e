use Rattle.std.proofs.Common.{take}
use Rattle.sml_client.specs.Heads.{IsOneLine}
use Rattle.sml_client.proofs.heads.first_line.Given as goal

abbrev pub invariant-loop-i : goal.invariant-loop-i
invariant-loop-i l = IsOneLine (take l.i l.bytes)
