use Rattle.std.proofs.Common.{◌≡◌, ◌≤◌, ◌-◌, ◌+◌}
use Rattle.std.specs.Prelude.{false}
use Rattle.sml_graph.specs.Asked.{count, PermitsSame}
use Rattle.sml_solve.proofs.solver.add_unknowns.Given as goal

abbrev pub invariant-loop-made : goal.invariant-loop-made
invariant-loop-made l = record {
  made : count l.solver ≡ count l.initial.solver + l.made;
  within : l.made ≤ l.number;
  same : PermitsSame l.initial.solver l.solver;
  kept : l.solver.spent ≡ false;
  unit : l.solver.unit ≡ l.initial.solver.unit;
}

abbrev pub decreases-loop-made : goal.decreases-loop-made
decreases-loop-made l = l.number - l.made
