use Rattle.std.proofs.Common.{[], map, string_bytes, take}
use Rattle.sml_projects.specs.Orders.{Waits}
use Rattle.sml_projects.specs.ProjectFiles.{units_in}
use Rattle.sml_projects.proofs.orders.places_of.Given as goal

abbrev pub invariant-loop-need : goal.invariant-loop-need
invariant-loop-need l = Waits (units_in l.manifest) [] (map string_bytes (take l.need-index l.needs)) l.places.items
