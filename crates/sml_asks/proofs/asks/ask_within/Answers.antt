use Rattle.sml_objects.specs.Views.{type_of}
use Rattle.sml_graph.specs.declared.demand.Ask.TheVariants as K
use Rattle.sml_graph.specs.Asked.{asks}
use Rattle.sml_asks.proofs.Stepping.{asks-after, asks-halted}
use Rattle.sml_asks.proofs.asks.ask_within.Goals as goal

pub returns-in_err-know : goal.returns-in_err-know
returns-in_err-know c =
    asks-halted c.args.solver.now c.know.new.solver c.know.new.solver (asks (K.Within c.args.bound c.args.most) (type_of c.args.ty.now)) c.know.result c.in_err-know.field-0.0 c.from_residual.result c.know.ensures.same c.in_err-know.was

pub returns : goal.returns
returns c =
    asks-after c.args.solver.now c.know.new.solver c.require_within.new.self (asks (K.Within c.args.bound c.args.most) (type_of c.args.ty.now)) c.know.result c.require_within.result c.know.ensures.same c.require_within.ensures
