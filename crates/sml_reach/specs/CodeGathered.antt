-- What the code has gathered from the events so far. No public contract rests on it.
use Rattle.std.specs.Prelude.{◌≡◌, ℕ, List, [], ◌∷◌, ◌++◌, Option, Some, None, map}
use Rattle.sml_tree.specs.Trees.{Id}
use Rattle.sml_reach.specs.declared.reach.Gathered.{Gathered}
use Rattle.sml_reach.specs.Events.{Event}
use Rattle.sml_reach.specs.Fits.{Fit, Fitted, fit_of, fitted_of}
use Rattle.sml_reach.specs.Reach.{Outcome, start, Outcomes, misfits_in, declarations_in}

-- declarations, and the last one that has begun, if one has, with what its sequences stand for, are all of these
abbrev pub AreDeclared : List Fitted → Option ℕ → List Fit → List Fitted → Type 0
AreDeclared before None fits all = (before ≡ []) × (all ≡ [])
AreDeclared before (Some begun) fits all = all ≡ before ++ record { begun = begun; fits = fits } ∷ []

-- what was gathered from outcomes
abbrev pub AreGathered : Gathered → List Outcome → Type 0
AreGathered g os = AreDeclared (map fitted_of g.declarations.items) g.begun (map fit_of g.fits.items) (declarations_in os) × (g.misfits.items ≡ misfits_in os)

-- what was gathered from what these events come to
abbrev pub ComesOf : (ℕ → Id) → List Event → Gathered → Type 0
ComesOf text events g = (os : List Outcome) × Outcomes text start events os × AreGathered g os
