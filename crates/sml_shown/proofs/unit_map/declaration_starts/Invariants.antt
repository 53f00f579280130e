-- The declarations so far, those of what is left, and the place of the last.
use Rattle.std.proofs.Common.{◌≡◌, ◌≤◌, ◌++◌}
use Rattle.sml_reach.specs.Places.{IsOnWay}
use Rattle.sml_parse.specs.Within.{extents_of}
use Rattle.sml_shown.specs.Maps.{starts_in}
use Rattle.sml_shown.proofs.Starts.{rest}
use Rattle.sml_shown.proofs.unit_map.declaration_starts.Given as goal

abbrev pub invariant-loop-i : goal.invariant-loop-i
invariant-loop-i l = record {
  kept : starts_in l.lexed.unit.now l.lexed.tokens.items (extents_of 0 l.nodes) ≡ l.starts.items ++ rest l.lexed.unit.now l.lexed.tokens.items l.nodes l.first l.i;
  way : IsOnWay l.lexed.unit.now l.walk;
  start : l.walk.start ≡ 0;
  few : l.first ≤ l.i;
}
