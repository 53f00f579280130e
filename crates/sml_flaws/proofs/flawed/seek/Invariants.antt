-- The first fault is that of the nodes that are left.
use Rattle.std.proofs.Common.{◌≡◌, ◌≤◌, map, drop, length}
use Rattle.sml_reach.specs.Events.{text_at}
use Rattle.sml_reach.specs.Fits.{fitted_of}
use Rattle.sml_flaws.specs.Flawed.{first_flawed}
use Rattle.sml_flaws.proofs.flawed.seek.Given as goal

abbrev pub invariant-loop-i : goal.invariant-loop-i
invariant-loop-i l = record {
  kept : first_flawed (text_at l.unit l.tokens) 0 0 l.nodes l.tokens (map fitted_of l.fitted) ≡ first_flawed (text_at l.unit l.tokens) l.first l.count (drop l.i l.nodes) (drop l.first l.tokens) (drop l.count (map fitted_of l.fitted));
  within : l.first ≤ length l.tokens;
  few : l.count ≤ l.i;
}
