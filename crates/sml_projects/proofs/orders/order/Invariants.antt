use Rattle.std.proofs.Common.{◌≤◌, ◌-◌, map, vec_len}
use Rattle.sml_projects.specs.ProjectFiles.{units_in}
use Rattle.sml_projects.proofs.InOrder.{Taking}
use Rattle.sml_projects.proofs.orders.order.Given as goal

abbrev pub invariant-units : goal.invariant-units
invariant-units l = record {
  taking : Taking (units_in l.manifest) (map (λ u. u.index) l.order.items) l.taken.items (map (λ places. places.items) l.waiting.items);
  few : vec_len l.order ≤ l.count;
}

abbrev pub decreases-units : goal.decreases-units
decreases-units l = l.count - vec_len l.order
