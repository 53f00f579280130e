use Rattle.std.proofs.Common.{◌≡◌, ◌++◌, ℕ, List, length}
use Rattle.sml_client.specs.Lengths.{EachPasses, is_blank}
use Rattle.sml_client.proofs.heads.before_blanks.Given as goal

abbrev pub invariant-blanks : goal.invariant-blanks
invariant-blanks l = (taken : List ℕ) × (l.bytes ≡ l.rest ++ taken) × EachPasses is_blank taken

abbrev pub decreases-blanks : goal.decreases-blanks
decreases-blanks l = length l.rest
