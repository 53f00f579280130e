use Rattle.sml_objects.specs.Views.{type_of}
use Rattle.sml_core.proofs.Limiting.{limit-is, limit-not, limit-unwatched}
use Rattle.sml_core.proofs.context.Context.within.Goals as goal

pub returns-in_err-watch : goal.returns-in_err-watch
returns-in_err-watch c = limit-unwatched c.args.self.now c.watch.new.self c.args.place (type_of c.args.ty.now) c.args.bound c.args.most c.watch.result c.watch.ensures _ c.in_err-watch.field-0.0 _ c.in_err-watch.was

pub returns-in-Ok : goal.returns-in-Ok
returns-in-Ok c =
    limit-is c.args.self.now c.watch.new.self c.args.place (type_of c.args.ty.now) c.args.bound c.args.most c.watch.result c.watch.ensures c.in_ok-watch.was c.ask_within.new.solver c.ask_within.result
    c.ask_within.ensures c.in-Ok.is

pub returns-in-Err : goal.returns-in-Err
returns-in-Err c =
    limit-not c.args.self.now c.watch.new.self c.args.place (type_of c.args.ty.now) c.args.bound c.args.most c.watch.result c.watch.ensures c.in_ok-watch.was c.ask_within.new.solver c.ask_within.result
    c.ask_within.ensures _ c.in-Err.refusal c.refused.result c.in-Err.is c.refused.ensures.fault c.refused.ensures.memory
