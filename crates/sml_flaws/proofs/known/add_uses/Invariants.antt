-- The uses of the steps from here on are added.
use Rattle.std.proofs.Common.{◌≡◌, true, drop, length, ◌≤◌}
use Rattle.std.specs.Bool.{if◌then◌else◌}
use Rattle.indexmap.specs.IndexSet.{contains}
use Rattle.sml_flaws.specs.declared.known.Position.{Position}
use Rattle.sml_flaws.specs.Known.{same_position, is_used_in}
use Rattle.sml_flaws.proofs.known.add_uses.Given as goal

abbrev pub invariant-loop-i : goal.invariant-loop-i
invariant-loop-i l = record {
  kept : (q : Position) → contains same_position l.uses q ≡ (if is_used_in l.sequence (drop l.i l.steps) q then true else contains same_position l.fn.uses q);
  within : l.i ≤ length l.steps;
}
