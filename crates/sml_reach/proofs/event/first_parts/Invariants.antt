-- The parts up to here are taken off.
use Rattle.std.proofs.Common.{◌≡◌, map, reverse, min, drop}
use Rattle.sml_reach.specs.Founds.{found_of}
use Rattle.sml_reach.proofs.event.first_parts.Given as goal

abbrev pub invariant-loop-index : goal.invariant-loop-index
invariant-loop-index l = map found_of (reverse l.founds.items) ≡ drop (min l.index l.count) (map found_of (reverse l.fn.founds.items))
