use Rattle.std.proofs.Common.{◌<◌, take}
use Rattle.std.specs.List.{AllByRecursion}
use Rattle.sml_solve_tests.proofs.script.calls.are_unknowns.Given as goal

abbrev pub invariant-loop-number : goal.invariant-loop-number
invariant-loop-number l = AllByRecursion (λ v. v < l.count) (take l.number-index l.numbers)
