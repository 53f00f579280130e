use Rattle.sml_solve.proofs.Clashing.{unmet-where-it-clashes}
use Rattle.sml_solve.proofs.solver.Solver.unmet_where_it_clashes.Goals as goal

pub returns : goal.returns
returns c = unmet-where-it-clashes c.args.self.now
