use Rattle.std.proofs.Common.{◌≡◌, ◌++◌, ℕ, List, length}
use Rattle.sml_client.specs.Lengths.{EachPasses}
use Rattle.std.specs.Char.{is_ascii_digit}
use Rattle.sml_client.proofs.heads.before_digits.Given as goal

abbrev pub invariant-digits : goal.invariant-digits
invariant-digits l = (taken : List ℕ) × (l.bytes ≡ l.rest ++ taken) × EachPasses is_ascii_digit taken

abbrev pub decreases-digits : goal.decreases-digits
decreases-digits l = length l.rest
