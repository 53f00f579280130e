use Rattle.sml_asks.proofs.Settling.{settled-all}
use Rattle.sml_asks.proofs.asks.ask_settled.Goals as goal

pub returns-clause-ok : goal.returns-clause-ok
returns-clause-ok c =
    settled-all c.args.solver.now c.know_numbers.new.solver c.settle_all.new.solver c.args.unknowns.now c.settle_all.result (λ k. (c.know_numbers.ensures.same k).1) c.settle_all.ensures.ok
