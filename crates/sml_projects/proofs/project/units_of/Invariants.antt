use Rattle.std.proofs.Common.{map}
use Rattle.sml_projects.specs.Orders.{unit_text_of}
use Rattle.sml_projects.specs.ProjectFiles.{units_in}
use Rattle.sml_projects.proofs.Placing.{Making}
use Rattle.sml_projects.proofs.project.units_of.Given as goal

abbrev pub invariant-loop-id : goal.invariant-loop-id
invariant-loop-id l = Making (units_in l.manifest) (map (λ t. t.items) l.fn.texts.items) (map (λ u. u.index) l.order) l.id-index (map (λ t. t.items) l.texts.items) (map unit_text_of l.units.items)
