use Rattle.std.proofs.Common.{Ok, ap, ◌∙◌}
use Rattle.sml_objects.specs.Views.{type_of}
use Rattle.sml_objects.proofs.TypeViews.{type_of-free}
use Rattle.sml_asks.proofs.Making.{fresh-makes}
use Rattle.sml_core.proofs.Sequences.{by-err}
use Rattle.sml_core.proofs.Steps.{unknown-is, unknown-memory}
use Rattle.sml_core.specs.Answered.{MakesUnknown}
use Rattle.sml_types.specs.declared.fault.CoreFault.TheVariants as F
use Rattle.sml_core.proofs.context.Context.unknown.Goals as goal

pub returns-in_default : goal.returns-in_default
returns-in_default c = unknown-memory c.args.self.now _

pub returns-in_err-boxed : goal.returns-in_err-boxed
returns-in_err-boxed c = by-err (MakesUnknown c.args.self.now _) c.from_residual.result F.Memory c.from_residual.ensures.1 (unknown-memory c.args.self.now _)

pub returns : goal.returns
returns c =
    unknown-is c.args.self.now c.fresh.new.self c.in-Ok.number c.in_ok-boxed.field-0
    (fresh-makes c.args.self.now.solver c.fresh.new.self (Ok c.in-Ok.number) c.in-Ok.ensures.new c.in-Ok.ensures.count c.in-Ok.ensures.same c.in-Ok.ensures.call) (ap type_of c.in_ok-boxed.ensures ∙ type_of-free c.in-Ok.number)
