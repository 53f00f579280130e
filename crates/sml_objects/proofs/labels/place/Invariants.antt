use Rattle.std.proofs.Common.{ℕ, ◌<◌, ◌≤◌, ◌-◌, length, map}
use Rattle.sml_tree.specs.Views.{ident_of}
use Rattle.sml_objects.specs.Labels.{StandsAt}
use Rattle.sml_objects.proofs.labels.place.Given as goal

-- the label stands nowhere but between the bounds
abbrev pub invariant-loop-low : goal.invariant-loop-low
invariant-loop-low l =
    (l.low ≤ l.high) × (l.high ≤ length l.list) × ((k : ℕ) → StandsAt (map ident_of l.list) l.label k → (l.low ≤ k) × (k < l.high))

abbrev pub decreases-loop-low : goal.decreases-loop-low
decreases-loop-low l = l.high - l.low
