use Rattle.std.proofs.Common.{◌≡◌, true, take}
use Rattle.sml_graph.specs.Asked.{count}
use Rattle.sml_asks.specs.Closings.{AsksSettled}
use Rattle.sml_asks.proofs.asks.settle_all.Given as goal

abbrev pub invariant-loop-unknown : goal.invariant-loop-unknown
invariant-loop-unknown l = record {
  count : count l.solver ≡ count l.initial.solver;
  settled : AsksSettled l.initial.solver (take l.unknown-index l.unknowns) l.solver;
  spent : l.solver.spent ≡ true → l.initial.solver.spent ≡ true;
}
