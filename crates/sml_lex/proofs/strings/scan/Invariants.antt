-- The bytes so far are items of the string.
use Rattle.std.proofs.Common.{◌-◌, length}
use Rattle.sml_lex.proofs.StringScans.{Counted}
use Rattle.sml_lex.proofs.strings.scan.Given as goal

abbrev pub invariant-items : goal.invariant-items
invariant-items l = Counted l.text l.bytes l.characters l.first

abbrev pub decreases-items : goal.decreases-items
decreases-items l = length l.text - l.bytes
