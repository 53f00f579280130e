use Rattle.std.proofs.Common.{◌≡◌, [], length, map}
use Rattle.sml_projects.specs.Orders.{AreWaiting}
use Rattle.sml_projects.specs.ProjectFiles.{units_in}
use Rattle.sml_projects.proofs.orders.needed.Given as goal

abbrev pub invariant-loop-index : goal.invariant-loop-index
invariant-loop-index l = record {
  count : length l.all.items ≡ l.index;
  places : AreWaiting (units_in l.manifest) [] (map (λ places. places.items) l.all.items);
}
