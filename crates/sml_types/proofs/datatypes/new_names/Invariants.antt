use Rattle.std.proofs.Common.{◌≡◌, ◌+◌, map, take}
use Rattle.sml_tree.specs.BindingViews.{dat_bind_of}
use Rattle.sml_objects.specs.Initial.{Name}
use Rattle.sml_objects.specs.Views.{maker_of, name_of}
use Rattle.sml_type_maps.specs.NewNames.{carries}
use Rattle.sml_types.specs.Datatypes.{names_from}
use Rattle.sml_types.proofs.datatypes.new_names.Given as goal

abbrev pub invariant-loop-bind : goal.invariant-loop-bind
invariant-loop-bind l = record {
  names : map name_of l.names.items ≡ names_from (maker_of l.initial.new.unit) l.initial.new.next (map dat_bind_of (take l.bind-index l.binds));
  next : l.new.next ≡ l.initial.new.next + l.bind-index;
  basis : l.new.basis ≡ l.initial.new.basis;
  unit : l.new.unit ≡ l.initial.new.unit;
  carries : (n : Name) → carries l.new n ≡ carries l.initial.new n;
}
