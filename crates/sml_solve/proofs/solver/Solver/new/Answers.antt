use Rattle.std.proofs.Common.{arith}
use Rattle.std.specs.Prelude.{false}
use Rattle.sml_objects.specs.Views.{maker_of}
use Rattle.sml_graph.specs.declared.graph.Graph.{Graph}
use Rattle.sml_graph.specs.CodeWhole.{IsKept}
use Rattle.sml_demands.proofs.Levelling.{levels-none}
use Rattle.sml_demands.proofs.Demanding.{kept-none, whole-met}
use Rattle.sml_solve.proofs.solver.Solver.new.Goals as goal

pub invariant_of-result : goal.invariant_of-result
invariant_of-result c _ =
    let g : Graph = record { nodes = c.new.result; limits = c.new-2.result; orders = c.new-3.result; bottom = 0x8000_0000_0000_0000; top = 0x8000_0000_0000_0000 } in
    record {
      kept = kept-none (maker_of c.args.unit) g c.new-4.result.items c.new.ensures.items c.new-2.ensures c.new-3.ensures.items (omega arith) (omega arith) c.new-4.ensures.items;
      levels = levels-none c.new.result.items c.new-4.result.items c.new-5.result.items c.new-6.result.items c.new.ensures.items c.new-4.ensures.items c.new-5.ensures.items c.new-6.ensures.items;
    }

pub returns-clause-met : goal.returns-clause-met
returns-clause-met c =
    let g : Graph = record { nodes = c.new.result; limits = c.new-2.result; orders = c.new-3.result; bottom = 0x8000_0000_0000_0000; top = 0x8000_0000_0000_0000 } in
    let k : IsKept (maker_of c.args.unit) g c.new-4.result.items = kept-none (maker_of c.args.unit) g c.new-4.result.items c.new.ensures.items c.new-2.ensures c.new-3.ensures.items (omega arith) (omega arith) c.new-4.ensures.items in
    whole-met (maker_of c.args.unit) g c.new-4.result.items false (λ e. omega (arith, e)) k.whole
