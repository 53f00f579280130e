-- The items of the atomic phrases so far.
use Rattle.std.proofs.Common.{◌≡◌, map, reverse, drop}
use Rattle.sml_fixity.specs.ItemNames.{name_of}
use Rattle.sml_reach.specs.Founds.{atom_of}
use Rattle.sml_reach.proofs.event.items_of.Given as goal

abbrev pub invariant-loop-i : goal.invariant-loop-i
invariant-loop-i l = map name_of l.items.items ≡ map (λ a. a.name) (map atom_of (reverse (drop l.i l.atoms)))
