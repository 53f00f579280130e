use Rattle.std.proofs.Common.{◌≡◌, map, take}
use Rattle.sml_objects.specs.Maps.{join}
use Rattle.sml_objects.specs.Views.{entries_of}
use Rattle.sml_bases.specs.Views.{ty_str_of}
use Rattle.sml_initial.specs.CodeTable.{type_row}
use Rattle.sml_initial.proofs.initial.put_types.Given as goal

abbrev pub invariant-loop-name : goal.invariant-loop-name
invariant-loop-name l = entries_of ty_str_of l.types.entries ≡ join (entries_of ty_str_of l.initial.types.entries) (map type_row (take l.name-index l.rows))
