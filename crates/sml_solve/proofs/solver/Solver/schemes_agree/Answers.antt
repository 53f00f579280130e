use Rattle.sml_solve.proofs.Agreeing.{schemes-agree}
use Rattle.sml_solve.proofs.solver.Solver.schemes_agree.Goals as goal

pub returns : goal.returns
returns c = schemes-agree c.args.self.now c.args.other.now c.choices_are_free.ensures c.choices_are_free-2.ensures
