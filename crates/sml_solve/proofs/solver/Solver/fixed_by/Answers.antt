use Rattle.std.proofs.Common.{rules}
use Rattle.sml_demands.proofs.Demanding.{permits-refl}
use Rattle.sml_solve.proofs.solver.Solver.fixed_by.Goals as goal

pub returns-in-Ok-clause-call : goal.returns-in-Ok-clause-call
returns-in-Ok-clause-call c = record {
  same = rw c.in-Ok.ensures.same (permits-refl c.args.self.now);
  count = search rules;
  returns = search rules;
}
