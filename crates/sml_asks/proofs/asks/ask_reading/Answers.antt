use Rattle.std.proofs.Common.{arith}
use Rattle.sml_objects.specs.Views.{type_of}
use Rattle.sml_asks.proofs.Schemes.{reading-after}
use Rattle.sml_asks.proofs.asks.ask_reading.Goals as goal

pub returns-clause-ok : goal.returns-clause-ok
returns-clause-ok c =
    reading-after c.args.solver.now c.know.new.solver c.reading.new.self (type_of c.args.ty.now) c.args.limit c.min.result c.know.result c.reading.result c.know.ensures.same
    (λ h. omega (arith, c.min.ensures, h)) c.reading.ensures.ty c.reading.ensures.within c.reading.ensures.none c.reading.ensures.call
