use Rattle.std.proofs.Common.{◌≡◌, [], map, take}
use Rattle.sml_objects.specs.Maps.{join}
use Rattle.sml_objects.specs.Views.{schemes_of}
use Rattle.sml_initial.specs.CodeTable.{constructor_row}
use Rattle.sml_initial.proofs.initial.constructors.Given as goal

abbrev pub invariant-loop-name : goal.invariant-loop-name
invariant-loop-name l = schemes_of l.constructors.entries ≡ join [] (map (constructor_row l.variables) (take l.name-index l.rows))
