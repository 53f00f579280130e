-- The first fault of the declaration among those from here on.
use Rattle.std.proofs.Common.{◌≡◌, drop}
use Rattle.sml_reach.specs.Reach.{first_misfit_in}
use Rattle.sml_reach.proofs.reach.first_of.Given as goal

abbrev pub invariant-loop-i : goal.invariant-loop-i
invariant-loop-i l = l.first ≡ first_misfit_in l.number (drop l.i l.misfits)
