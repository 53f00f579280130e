use Rattle.std.proofs.Common.{◌≡◌, ◌≤◌, length, take}
use Rattle.std.specs.Prelude.{false}
use Rattle.sml_graph.specs.Asked.{count}
use Rattle.sml_demands.specs.Overloaded.{Settles}
use Rattle.sml_solve.proofs.solver.Solver.settle.Given as goal

abbrev pub invariant-loop-index : goal.invariant-loop-index
invariant-loop-index l = record {
  settled : Settles l.initial.self (take l.index l.unknowns) l.self;
  within : l.index ≤ length l.unknowns;
  count : count l.self ≡ count l.initial.self;
  kept : l.self.spent ≡ false;
  unit : l.self.unit ≡ l.initial.self.unit;
}
