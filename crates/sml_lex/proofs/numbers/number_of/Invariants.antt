-- The value is that of the digits so far.
use Rattle.std.proofs.Common.{◌≡◌, drop}
use Rattle.sml_lex.specs.Numbers.{number}
use Rattle.sml_lex.proofs.DigitValues.{number_after}
use Rattle.sml_lex.proofs.numbers.number_of.Given as goal

abbrev pub invariant-loop-byte : goal.invariant-loop-byte
invariant-loop-byte l = number l.base l.digits ≡ number_after l.base l.value (drop l.byte-index l.digits)
