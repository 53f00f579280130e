use Rattle.sml_objects.specs.Views.{type_of}
use Rattle.sml_core.proofs.Steps.{equal-is, equal-not, equal-unwatched}
use Rattle.sml_core.proofs.context.Context.equal.Goals as goal

pub returns-in_err-watch : goal.returns-in_err-watch
returns-in_err-watch c = equal-unwatched c.args.self.now c.watch.new.self c.args.place (type_of c.args.left.now) (type_of c.args.right.now) c.watch.result c.watch.ensures _ c.in_err-watch.field-0.0 _ c.in_err-watch.was

pub returns-in-Ok : goal.returns-in-Ok
returns-in-Ok c =
    equal-is c.args.self.now c.watch.new.self c.args.place (type_of c.args.left.now) (type_of c.args.right.now) c.watch.result c.watch.ensures c.in_ok-watch.was c.ask_equal.new.solver c.ask_equal.result
    c.ask_equal.ensures c.in-Ok.is

pub returns-in-Err : goal.returns-in-Err
returns-in-Err c =
    equal-not c.args.self.now c.watch.new.self c.args.place (type_of c.args.left.now) (type_of c.args.right.now) c.watch.result c.watch.ensures c.in_ok-watch.was c.ask_equal.new.solver c.ask_equal.result
    c.ask_equal.ensures _ c.in-Err.refusal c.refused.result c.in-Err.is c.refused.ensures.fault c.refused.ensures.memory
