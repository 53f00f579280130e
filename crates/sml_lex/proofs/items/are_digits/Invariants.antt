-- All bytes so far are digits.
use Rattle.std.proofs.Common.{◌≡◌, drop}
use Rattle.sml_lex.specs.Bytes.{is_digit}
use Rattle.sml_lex.specs.Bytes.{all_are}
use Rattle.sml_lex.proofs.items.are_digits.Given as goal

abbrev pub invariant-loop-byte : goal.invariant-loop-byte
invariant-loop-byte l = all_are is_digit (drop l.byte-index l.text) ≡ all_are is_digit l.text
