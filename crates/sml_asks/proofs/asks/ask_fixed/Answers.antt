use Rattle.std.proofs.Common.{arith}
use Rattle.sml_asks.proofs.Closing.{fixed-after}
use Rattle.sml_asks.proofs.asks.ask_fixed.Goals as goal

pub returns-clause-ok : goal.returns-clause-ok
returns-clause-ok c =
    fixed-after c.args.solver.now c.know_numbers.new.solver c.fixed_by.new.self c.args.first c.min.result c.args.others.now c.know_numbers.result c.fixed_by.result c.know_numbers.ensures.same
    (λ h. omega (arith, c.min.ensures, c.unknowns-count.ensures, h)) c.fixed_by.ensures.flags c.fixed_by.ensures.call
