use Rattle.std.proofs.Common.{◌<◌, ℕ, List, map}
use Rattle.sml_projects.specs.Orders.{Stands, MayCome}
use Rattle.sml_projects.specs.ProjectFiles.{UnitLine}
use Rattle.sml_projects.proofs.orders.next.Given as goal

abbrev pub invariant-loop-index : goal.invariant-loop-index
invariant-loop-index l = record {
  stands : (us : List UnitLine) (order : List ℕ) → Stands us order l.taken (map (λ places. places.items) l.initial.waiting) → Stands us order l.taken (map (λ places. places.items) l.waiting);
  before : (us : List UnitLine) (order : List ℕ) → Stands us order l.taken (map (λ places. places.items) l.initial.waiting) → (j : ℕ) → j < l.index → ¬ (MayCome us order j);
}
