use Rattle.std.proofs.Common.{◌≡◌, [], length, map, take}
use Rattle.sml_tree.specs.BindingViews.{dat_bind_of}
use Rattle.sml_objects.specs.Views.{entries_of, name_of}
use Rattle.sml_core_rules.specs.Datatypes.{datatype_types}
use Rattle.sml_bases.specs.Views.{ty_str_of}
use Rattle.sml_types.proofs.datatypes.named_types.Given as goal

abbrev pub invariant-loop-bind : goal.invariant-loop-bind
invariant-loop-bind l =
    entries_of ty_str_of l.types.entries ≡ datatype_types [] (map dat_bind_of (take (length l.yielded) l.binds)) (map name_of (take (length l.yielded) l.names))
