-- The places so far.
use Rattle.std.proofs.Common.{◌≡◌, length}
use Rattle.sml_reach.specs.Places.{start_of}
use Rattle.sml_reach.specs.Places.{IsOnWay}
use Rattle.sml_bare.specs.CodeSources.{ArePlaced}
use Rattle.sml_bare.proofs.source.find_places.Given as goal

abbrev pub invariant-loop-n : goal.invariant-loop-n
invariant-loop-n l = record {
  sound : IsOnWay l.unit l.walk;
  start : l.walk.start ≡ start_of l.tokens 0 0;
  kept : ArePlaced l.unit l.tokens l.places.items;
  count : length l.places.items ≡ l.n;
}
