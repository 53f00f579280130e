use Rattle.std.proofs.Common.{◌≤◌, take}
use Rattle.std.specs.List.{AllByRecursion}
use Rattle.sml_types.specs.Datatypes.{constructor_sizes}
use Rattle.sml_types.proofs.datatypes.small_constructors.Given as goal

abbrev pub invariant-loop-index : goal.invariant-loop-index
invariant-loop-index l = AllByRecursion (λ k. k ≤ 10000) (constructor_sizes (take l.index l.binds) (take l.index l.all))
