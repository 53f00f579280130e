use Rattle.std.proofs.Common.{◌≡◌, map}
use Rattle.sml_tree.specs.BindingViews.{typ_bind_of, con_bind_of}
use Rattle.sml_tree.specs.Withtype.{con_replaced}
use Rattle.sml_derived.proofs.withtype.dat_replaced.Given as goal

abbrev pub invariant-loop-constructor : goal.invariant-loop-constructor
invariant-loop-constructor l = map con_bind_of l.constructors.items ≡ map (con_replaced (map typ_bind_of l.fn.binds)) (map con_bind_of l.yielded)
