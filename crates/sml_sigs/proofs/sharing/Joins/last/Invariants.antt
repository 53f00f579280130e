use Rattle.std.proofs.Common.{◌≡◌, ◌-◌}
use Rattle.indexmap.specs.IndexMap.{index_map_len}
use Rattle.sml_objects.specs.Views.{name_of}
use Rattle.sml_type_maps.specs.Mapped.{last_of, names_of}
use Rattle.sml_sigs.proofs.sharing.Joins.last.Given as goal

abbrev pub invariant-loop : goal.invariant-loop
invariant-loop l =
    last_of (index_map_len l.self.others) (names_of l.self.others.entries) (name_of l.fn.name) ≡ last_of (l.end - l.counter) (names_of l.self.others.entries) (name_of l.last)
