-- No directive is read from here on.
use Rattle.std.proofs.Common.{◌≡◌, ◌≤◌, drop, length, false}
use Rattle.std.specs.List.{list_any}
use Rattle.sml_reach.specs.CodeKept.{is_directive}
use Rattle.sml_reach.proofs.event.has_directive.Given as goal

abbrev pub invariant-loop-i : goal.invariant-loop-i
invariant-loop-i l = record {
  none : list_any is_directive (drop l.i l.nodes) ≡ false;
  within : l.i ≤ length l.nodes;
}
