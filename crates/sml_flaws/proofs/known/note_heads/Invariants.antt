-- The heads from here on are known.
use Rattle.std.proofs.Common.{◌≤◌, map, drop, length}
use Rattle.sml_reach.specs.Fits.{fit_of}
use Rattle.sml_flaws.specs.Known.{KnowsHeads}
use Rattle.sml_flaws.proofs.known.note_heads.Given as goal

abbrev pub invariant-loop-i : goal.invariant-loop-i
invariant-loop-i l = record {
  kept : KnowsHeads (map fit_of (drop l.i l.fits)) l.heads;
  within : l.i ≤ length l.fits;
}
