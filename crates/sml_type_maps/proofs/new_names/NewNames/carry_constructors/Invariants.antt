use Rattle.std.proofs.Common.{◌≡◌, map}
use Rattle.std.specs.Map.Iter.{deref_pair}
use Rattle.sml_tree.specs.Views.{ident_of}
use Rattle.sml_objects.specs.Views.{schemes_of}
use Rattle.sml_core_rules.specs.Objects.{identifiers}
use Rattle.sml_type_maps.proofs.new_names.NewNames.carry_constructors.Given as goal

abbrev pub invariant-loop-identifier : goal.invariant-loop-identifier
invariant-loop-identifier l = map ident_of l.identifiers.items ≡ identifiers (schemes_of (map deref_pair l.yielded))
