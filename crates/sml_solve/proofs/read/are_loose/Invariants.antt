use Rattle.std.proofs.Common.{take}
use Rattle.std.specs.List.{AllByRecursion}
use Rattle.sml_graph.specs.Graphs.{IsLoose}
use Rattle.sml_solve.proofs.read.are_loose.Given as goal

abbrev pub invariant-loop-variable : goal.invariant-loop-variable
invariant-loop-variable l = AllByRecursion (IsLoose l.nodes l.unknowns) (take l.variable-index l.variables)
