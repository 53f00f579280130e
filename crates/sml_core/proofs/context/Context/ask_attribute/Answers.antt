use Rattle.std.proofs.Common.{◌+◌, ◌∷◌, [], Ok, Err, subst, sym, ◌∙◌}
use Rattle.sml_objects.proofs.TypeViews.{type_of-free}
use Rattle.sml_objects.specs.Objects.{free}
use Rattle.sml_graph.specs.Asked as A
use Rattle.sml_graph.specs.declared.demand.Ask.TheVariants as Ask
use Rattle.sml_types.specs.declared.fault.CoreFault.TheVariants as F
use Rattle.sml_asks.specs.Steps.{Asks}
use Rattle.sml_core.proofs.Sequences.{by-err}
use Rattle.sml_core.proofs.Instances.{attribute-asked, attribute-free, attribute-refused, attributes-memory}
use Rattle.sml_core.specs.Answered.{AsksAttributes}
use Rattle.sml_core.proofs.context.Context.ask_attribute.Goals as goal

pub returns-then-not-equality : goal.returns-then-not-equality
returns-then-not-equality c =
    subst (λ e. AsksAttributes c.args.self.now c.args.place (c.args.from + c.args.index) (e ∷ []) c.args.self.now (Ok tt)) (sym c.if-not-equality.true)
    (attribute-free c.args.self.now c.args.place (c.args.from + c.args.index))

pub returns-in_default : goal.returns-in_default
returns-in_default c = attributes-memory c.args.self.now _ c.args.place (c.args.from + c.args.index) (c.args.equality ∷ [])

pub returns-in_err-number_of : goal.returns-in_err-number_of
returns-in_err-number_of c =
    by-err (AsksAttributes c.args.self.now c.args.place (c.args.from + c.args.index) (c.args.equality ∷ []) _) c.from_residual.result F.Memory c.from_residual.ensures.1
    (attributes-memory c.args.self.now _ c.args.place (c.args.from + c.args.index) (c.args.equality ∷ []))

pub returns-in-Ok : goal.returns-in-Ok
returns-in-Ok c =
    subst (λ e. AsksAttributes c.args.self.now c.args.place (c.args.from + c.args.index) (e ∷ []) (record c.args.self.now { solver = c.ask_equality.new.solver }) (Ok tt)) (sym c.if-not-equality.false)
    (attribute-asked c.args.self.now c.args.place (c.args.from + c.args.index) c.ask_equality.new.solver c.ask_equality.result
    (subst (λ t. Asks c.args.self.now.solver (A.asks Ask.Equality t) c.ask_equality.new.solver c.ask_equality.result)
    (type_of-free c.in_ok-number_of.field-0 ∙ (λ i. free ((c.in_ok-number_of.ensures ∙ c.in-Some.ensures.1) i))) c.ask_equality.ensures) c.in-Ok.is)

pub returns : goal.returns
returns c =
    subst (λ e. AsksAttributes c.args.self.now c.args.place (c.args.from + c.args.index) (e ∷ []) (record c.args.self.now { solver = c.ask_equality.new.solver }) (Err c.refused.result)) (sym c.if-not-equality.false)
    (attribute-refused c.args.self.now c.args.place (c.args.from + c.args.index) c.ask_equality.new.solver _ c.ask_equality.result c.in-Err.refusal c.refused.result
    (subst (λ t. Asks c.args.self.now.solver (A.asks Ask.Equality t) c.ask_equality.new.solver c.ask_equality.result)
    (type_of-free c.in_ok-number_of.field-0 ∙ (λ i. free ((c.in_ok-number_of.ensures ∙ c.in-Some.ensures.1) i))) c.ask_equality.ensures) c.in-Err.is c.refused.ensures.fault c.refused.ensures.memory)
