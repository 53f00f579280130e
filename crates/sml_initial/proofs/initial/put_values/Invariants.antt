use Rattle.std.proofs.Common.{◌≡◌, map, take}
use Rattle.sml_objects.specs.Maps.{join}
use Rattle.sml_objects.specs.Views.{entries_of}
use Rattle.sml_bases.specs.Views.{value_of}
use Rattle.sml_initial.specs.CodeTable.{value_row}
use Rattle.sml_initial.proofs.initial.put_values.Given as goal

abbrev pub invariant-loop-name : goal.invariant-loop-name
invariant-loop-name l = entries_of value_of l.values.entries ≡ join (entries_of value_of l.initial.values.entries) (map value_row (take l.name-index l.rows))
