use Rattle.std.proofs.Common.{◌≡◌, map, take}
use Rattle.sml_match.proofs.Generality.{fresh}
use Rattle.sml_match.proofs.general.is_closed_general.Given as goal

abbrev pub invariant-loop-equality : goal.invariant-loop-equality
invariant-loop-equality l = l.images.items ≡ map fresh (take l.equality-index l.equality-items)
