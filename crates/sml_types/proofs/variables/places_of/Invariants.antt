use Rattle.std.proofs.Common.{◌≡◌, take}
use Rattle.sml_tree.specs.Trees.{Id}
use Rattle.sml_tree.specs.TypeViews.{names_of}
use Rattle.sml_types.specs.Variables.{place_from, place_in}
use Rattle.sml_types.proofs.variables.places_of.Given as goal

abbrev pub invariant-loop-index : goal.invariant-loop-index
invariant-loop-index l = (x : Id) → place_in l.places.entries x ≡ place_from x 0 (names_of (take l.index l.names))
