use Rattle.std.proofs.Common.{Ok, subst, sym}
use Rattle.sml_core_rules.specs.Objects.{constructor, exception, variable}
use Rattle.sml_bases.specs.Views.{status_of}
use Rattle.sml_core.proofs.Instances.{status-asked}
use Rattle.sml_core.specs.Answered.{AsksStatus}
use Rattle.sml_core.proofs.context.Context.ask_status.Goals as goal

pub returns-in-Overloaded : goal.returns-in-Overloaded
returns-in-Overloaded c = subst (λ w. AsksStatus c.args.self.now c.args.place c.args.unknown (status_of w) c.ask_overload.new.self c.ask_overload.result) (sym c.in-Overloaded.is) c.ask_overload.ensures

pub returns-in-Variable : goal.returns-in-Variable
returns-in-Variable c =
    subst (λ w. AsksStatus c.args.self.now c.args.place c.args.unknown (status_of w) c.args.self.now (Ok tt)) (sym c.in-Variable.is)
    (status-asked c.args.self.now c.args.place c.args.unknown variable (λ k e. cc))

pub returns-in-Constructor : goal.returns-in-Constructor
returns-in-Constructor c =
    subst (λ w. AsksStatus c.args.self.now c.args.place c.args.unknown (status_of w) c.args.self.now (Ok tt)) (sym c.in-Constructor.is)
    (status-asked c.args.self.now c.args.place c.args.unknown (constructor c.in-Constructor.number c.in-Constructor.count) (λ k e. cc))

pub returns-in-Exception : goal.returns-in-Exception
returns-in-Exception c =
    subst (λ w. AsksStatus c.args.self.now c.args.place c.args.unknown (status_of w) c.args.self.now (Ok tt)) (sym c.in-Exception.is)
    (status-asked c.args.self.now c.args.place c.args.unknown exception (λ k e. cc))
