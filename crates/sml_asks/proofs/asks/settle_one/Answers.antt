use Rattle.sml_asks.proofs.Settling.{settled-so, settled-not}
use Rattle.sml_asks.proofs.asks.settle_one.Goals as goal

pub returns-then-branch-clause-ok : goal.returns-then-branch-clause-ok
returns-then-branch-clause-ok c =
    settled-so c.args.solver.now c.settle.new.self c.args.unknown c.in_ok-is_overloaded.field-0 c.settle.result c.if-branch.true c.in_ok-is_overloaded.ensures.yes c.in_ok-is_overloaded.ensures.int
    c.settle.ensures.ok c.settle.ensures.count c.settle.ensures.call

pub returns-clause-ok : goal.returns-clause-ok
returns-clause-ok c = settled-not c.args.solver.now c.args.unknown c.in_ok-is_overloaded.field-0 c.if-branch.false c.in_ok-is_overloaded.ensures.no
