use Rattle.sml_objects.specs.Views.{type_of}
use Rattle.sml_asks.proofs.Closing.{labels-after, labels-halted}
use Rattle.sml_asks.proofs.asks.ask_labels.Goals as goal

pub returns-in_err-know : goal.returns-in_err-know
returns-in_err-know c =
    labels-halted c.args.solver.now c.know.new.solver c.know.new.solver (type_of c.args.ty.now) c.know.result c.in_err-know.field-0.0 c.from_residual.result c.know.ensures.same c.in_err-know.was

pub returns : goal.returns
returns c =
    labels-after c.args.solver.now c.know.new.solver c.require_labels.new.self (type_of c.args.ty.now) c.know.result c.require_labels.result c.know.ensures.same
    c.require_labels.ensures.one c.require_labels.ensures.several c.require_labels.ensures.unmet c.require_labels.ensures.call
