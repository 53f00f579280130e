-- The uses of the sequences from here on are known.
use Rattle.std.proofs.Common.{◌≤◌, map, drop, length}
use Rattle.sml_reach.specs.Fits.{fit_of}
use Rattle.sml_flaws.specs.Known.{KnowsUses}
use Rattle.sml_flaws.proofs.known.note_uses.Given as goal

abbrev pub invariant-loop-i : goal.invariant-loop-i
invariant-loop-i l = record {
  kept : KnowsUses (map fit_of (drop l.i l.fits)) l.uses;
  within : l.i ≤ length l.fits;
}
