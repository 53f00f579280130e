use Rattle.std.proofs.Common.{◌≡◌, map, take}
use Rattle.sml_projects.specs.Orders.{unit_text_of}
use Rattle.sml_units.specs.Complete.{texts_of}
use Rattle.sml_units.proofs.project.sources_of.Given as goal

abbrev pub invariant-loop-unit : goal.invariant-loop-unit
invariant-loop-unit l = texts_of l.sources.items ≡ map (λ u. u.text) (map unit_text_of (take l.unit-index l.unit-items))
