use Rattle.sml_objects.specs.Views.{type_of}
use Rattle.sml_graph.specs.declared.demand.Ask.TheVariants as K
use Rattle.sml_graph.specs.Asked.{asks}
use Rattle.sml_asks.proofs.Stepping.{asks-after, asks-halted}
use Rattle.sml_asks.proofs.asks.ask_equality.Goals as goal

pub returns-in_err-know : goal.returns-in_err-know
returns-in_err-know c =
    asks-halted c.args.solver.now c.know.new.solver c.know.new.solver (asks K.Equality (type_of c.args.ty.now)) c.know.result c.in_err-know.field-0.0 c.from_residual.result c.know.ensures.same c.in_err-know.was

pub returns : goal.returns
returns c =
    asks-after c.args.solver.now c.know.new.solver c.require_equality.new.self (asks K.Equality (type_of c.args.ty.now)) c.know.result c.require_equality.result c.know.ensures.same c.require_equality.ensures
