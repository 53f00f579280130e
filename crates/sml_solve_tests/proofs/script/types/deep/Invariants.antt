use Rattle.std.proofs.Common.{ℕ}
use Rattle.sml_objects.specs.Views.{type_of}
use Rattle.sml_graph.specs.Interned.{IsOver}
use Rattle.sml_solve_tests.proofs.script.types.deep.Given as goal

abbrev pub invariant-loop : goal.invariant-loop
invariant-loop l = (n : ℕ) → IsOver n (type_of l.fn.of) → IsOver n (type_of l.ty)
