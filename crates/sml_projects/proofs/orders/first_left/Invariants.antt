use Rattle.std.proofs.Common.{◌≡◌, ◌<◌, ◌-◌, ℕ, true, length}
use Rattle.sml_projects.specs.Orders.{is_marked}
use Rattle.sml_projects.proofs.orders.first_left.Given as goal

abbrev pub invariant-loop-index : goal.invariant-loop-index
invariant-loop-index l = (j : ℕ) → j < l.index → is_marked l.taken j ≡ true

abbrev pub decreases-loop-index : goal.decreases-loop-index
decreases-loop-index l = length l.taken - l.index
