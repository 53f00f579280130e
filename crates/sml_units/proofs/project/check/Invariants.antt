use Rattle.std.proofs.Common.{map, take}
use Rattle.sml_projects.specs.Orders.{unit_text_of}
use Rattle.sml_units.specs.Checked.{HaveOwnPlaces}
use Rattle.sml_units.specs.Complete.{AreAllComplete}
use Rattle.sml_units.specs.Counts.{IsCountOf}
use Rattle.sml_units.proofs.Several.{AreAnswered}
use Rattle.sml_units.proofs.project.check.Given as goal

abbrev pub invariant-loop-unit : goal.invariant-loop-unit
invariant-loop-unit l =
    (HaveOwnPlaces (map unit_text_of (take l.unit-index l.unit-items)) → AreAnswered (map unit_text_of (take l.unit-index l.unit-items)) l.units.items l.exports.items)
    × IsCountOf (map unit_text_of (take l.unit-index l.unit-items)) l.readings
    × AreAllComplete (map unit_text_of (take l.unit-index l.unit-items)) l.units.items
