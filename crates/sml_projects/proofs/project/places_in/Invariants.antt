use Rattle.std.proofs.Common.{map}
use Rattle.sml_projects.proofs.Placing.{Placed}
use Rattle.sml_projects.proofs.project.places_in.Given as goal

abbrev pub invariant-loop-place : goal.invariant-loop-place
invariant-loop-place l = Placed (map (λ u. u.index) l.order) l.place l.places.items
