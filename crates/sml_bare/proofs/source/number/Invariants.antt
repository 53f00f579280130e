-- The sequences from here on are known.
use Rattle.std.proofs.Common.{◌≤◌, map, drop, length}
use Rattle.sml_reach.specs.Fits.{fit_of}
use Rattle.sml_bare.specs.CodeSources.{KnowsFits}
use Rattle.sml_bare.proofs.source.number.Given as goal

abbrev pub invariant-loop-i : goal.invariant-loop-i
invariant-loop-i l = record {
  kept : KnowsFits l.i l.begun (map fit_of (drop l.i l.fits)) l.table.items;
  within : l.i ≤ length l.fits;
}
