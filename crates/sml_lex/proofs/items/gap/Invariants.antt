-- The bytes so far are white space.
use Rattle.std.proofs.Common.{◌≡◌, ◌-◌, ◌≤◌, length, drop}
use Rattle.sml_lex.proofs.StringItems.{gap_element}
use Rattle.sml_lex.proofs.items.gap.Given as goal

abbrev pub invariant-loop-count : goal.invariant-loop-count
invariant-loop-count l = record {
  rest : gap_element l.count (drop l.count l.text) ≡ gap_element 0 l.text;
  within : l.count ≤ length l.text;
}

abbrev pub decreases-loop-count : goal.decreases-loop-count
decreases-loop-count l = length l.text - l.count
