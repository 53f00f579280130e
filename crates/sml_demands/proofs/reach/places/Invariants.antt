use Rattle.std.specs.Prelude.{◌≡◌, take}
use Rattle.sml_schemes.specs.Fixed.{places_of}
use Rattle.sml_demands.proofs.reach.places.Given as goal

abbrev pub invariant-loop-other : goal.invariant-loop-other
invariant-loop-other l = l.places.items ≡ places_of l.unknowns (take l.other-index l.others)
