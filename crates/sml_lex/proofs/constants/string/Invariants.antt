-- The characters so far are those of the items so far.
use Rattle.std.proofs.Common.{◌-◌, length}
use Rattle.sml_lex.proofs.StringScans.{Scanned}
use Rattle.sml_lex.proofs.constants.string.Given as goal

abbrev pub invariant-items : goal.invariant-items
invariant-items l = Scanned l.text l.bytes l.value.items

abbrev pub decreases-items : goal.decreases-items
decreases-items l = length l.text - l.bytes
