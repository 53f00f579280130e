-- The first fault among those from here on.
use Rattle.std.proofs.Common.{◌≡◌, ◌≤◌, drop, length}
use Rattle.sml_flaws.specs.Flaws.{first_flaw}
use Rattle.sml_flaws.proofs.flaw.first_of.Given as goal

abbrev pub invariant-loop-i : goal.invariant-loop-i
invariant-loop-i l = record {
  kept : l.first ≡ first_flaw (drop l.i l.flaws);
  within : l.i ≤ length l.flaws;
}
