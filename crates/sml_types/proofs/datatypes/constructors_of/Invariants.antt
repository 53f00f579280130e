use Rattle.std.proofs.Common.{◌≡◌, drop, length, map}
use Rattle.sml_tree.specs.TypeViews.{names_of}
use Rattle.sml_objects.specs.Objects as O
use Rattle.sml_objects.specs.Views.{name_of, schemes_of}
use Rattle.sml_core_rules.specs.Datatypes as read
use Rattle.sml_types.specs.Losses.{losing_arguments}
use Rattle.sml_types.proofs.datatypes.constructors_of.Given as goal

abbrev pub invariant-loop-index : goal.invariant-loop-index
invariant-loop-index l =
    schemes_of l.constructors.entries
    ≡ read.constructors_of (O.app (O.name (name_of l.fn.name)) (read.types_from O.free 0 (length l.bind.variables.items)))
    (map (λ x. read.is_equality x.id) (names_of l.bind.variables.items))
    (losing_arguments l.by.run l.by.lost.now (drop l.index l.bind.constructors.items) (drop l.index l.arguments))
