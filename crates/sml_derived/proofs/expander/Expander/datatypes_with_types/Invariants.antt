use Rattle.std.proofs.Common.{◌≡◌, map}
use Rattle.sml_tree.specs.BindingViews.{typ_bind_of, dat_bind_of}
use Rattle.sml_tree.specs.Withtype.{dat_replaced}
use Rattle.sml_derived.proofs.expander.Expander.datatypes_with_types.Given as goal

abbrev pub invariant-loop-datatype : goal.invariant-loop-datatype
invariant-loop-datatype l = map dat_bind_of l.binds.items ≡ map (dat_replaced (map typ_bind_of l.fn.types.items)) (map dat_bind_of l.yielded)
