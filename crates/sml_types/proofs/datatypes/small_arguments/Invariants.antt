use Rattle.std.proofs.Common.{◌≤◌, map, take}
use Rattle.std.specs.List.{AllByRecursion}
use Rattle.sml_types.specs.Datatypes.{constructor_size, meant_argument}
use Rattle.sml_types.proofs.datatypes.small_arguments.Given as goal

abbrev pub invariant-loop-argument : goal.invariant-loop-argument
invariant-loop-argument l = AllByRecursion (λ k. k ≤ 10000) (map (constructor_size l.parameters) (map meant_argument (take l.argument-index l.arguments)))
