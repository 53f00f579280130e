use Rattle.std.proofs.Common.{◌≡◌, ◌≤◌, List, length}
use Rattle.sml_projects.specs.Orders.{UnitText, unit_texts}
use Rattle.sml_units.specs.Complete.{IsMadeOf}
use Rattle.sml_units.proofs.recheck.Rechecking.go_on.Given as goal

abbrev pub invariant-loop-place : goal.invariant-loop-place
invariant-loop-place l =
    (l.place ≤ length l.project.units.items → length l.self.checked.kept.items ≡ l.place)
    × (length l.fn.self.checked.kept.items ≤ l.count → l.place ≤ l.count)
    × ((us : List UnitText) → IsMadeOf us l.old → IsMadeOf (unit_texts l.project) l.fn.self.checked → IsMadeOf (unit_texts l.project) l.self.checked)
