-- Laws of the definitions.
use Rattle.std.specs.Prelude.{◌≡◌, ℕ, List, Option}
use Rattle.sml_tree.specs.Trees.{Id}
use Rattle.sml_reach.specs.declared.reach.Misfit.{Misfit}
use Rattle.sml_reach.specs.Events.{Event}
use Rattle.sml_reach.specs.Fits.{Fitted}
use Rattle.sml_reach.specs.Reach.{AreFitted}

-- The same events have one first fault, and the sequences before it stand for one thing.
abbrev pub FittingIsUnique : Type 0
FittingIsUnique =
    (text : ℕ → Id) (events : List Event) (fitted others : List Fitted) (first other : Option Misfit)
    → AreFitted text events fitted first → AreFitted text events others other → (fitted ≡ others) × (first ≡ other)
