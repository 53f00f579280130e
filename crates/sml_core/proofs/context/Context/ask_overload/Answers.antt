use Rattle.std.proofs.Common.{subst, refl}
use Rattle.sml_objects.proofs.TypeViews.{type_of-free}
use Rattle.sml_graph.specs.Asked as A
use Rattle.sml_graph.specs.declared.demand.Ask.TheVariants as Ask
use Rattle.sml_core_rules.specs.Objects.{overloaded}
use Rattle.sml_types.specs.declared.fault.CoreFault.TheVariants as F
use Rattle.sml_asks.specs.Steps.{Asks}
use Rattle.sml_core.proofs.Sequences.{by-err}
use Rattle.sml_core.proofs.Instances.{class-asked, class-refused, status-memory}
use Rattle.sml_core.specs.Answered.{AsksStatus}
use Rattle.sml_core.proofs.context.Context.ask_overload.Goals as goal

pub returns-in_err-push-in-Ok : goal.returns-in_err-push-in-Ok
returns-in_err-push-in-Ok c =
    by-err (AsksStatus c.args.self.now c.args.place c.args.unknown (overloaded c.args.class) _) c.from_residual.result F.Memory c.from_residual.ensures.1
    (status-memory c.args.self.now _ c.args.place c.args.unknown (overloaded c.args.class))

pub returns-in-Ok : goal.returns-in-Ok
returns-in-Ok c =
    class-asked c.args.self.now c.args.place c.args.unknown c.ask_class.new.solver c.args.class c.ask_class.result _
    (subst (λ t. Asks c.args.self.now.solver (A.asks (Ask.Class c.args.class) t) c.ask_class.new.solver c.ask_class.result) (type_of-free c.args.unknown) c.ask_class.ensures)
    c.in-Ok.is c.push.new.self c.in_ok-push-in-Ok.ensures.items refl

pub returns : goal.returns
returns c =
    class-refused c.args.self.now c.args.place c.args.unknown c.ask_class.new.solver c.args.class _ c.ask_class.result c.in-Err.refusal c.refused.result
    (subst (λ t. Asks c.args.self.now.solver (A.asks (Ask.Class c.args.class) t) c.ask_class.new.solver c.ask_class.result) (type_of-free c.args.unknown) c.ask_class.ensures)
    c.in-Err.is c.refused.ensures.fault c.refused.ensures.memory
