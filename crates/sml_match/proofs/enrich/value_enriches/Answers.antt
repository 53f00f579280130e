use Rattle.std.proofs.Common.{◌≡◌, true, false, length, sym, ◌∙◌}
use mathlib.Core.Bool.{true≢false}
use Rattle.sml_objects.specs.Initial.{naming}
use Rattle.sml_objects.specs.Views.{type_of}
use Rattle.sml_bases.specs.Views.{value_of}
use Rattle.sml_module_rules.specs.Matching.{IsGeneral}
use Rattle.sml_match.specs.Paths.{path_in}
use Rattle.sml_match.proofs.Generality.{told-as}
use Rattle.sml_match.proofs.Making.{over-known}
use Rattle.sml_match.proofs.Requiring.{value-met}
use Rattle.sml_match.proofs.Unmet.{status-unmet, general-unmet}
use Rattle.sml_match.proofs.enrich.value_enriches.Goals as goal

pub returns-then-not-serves_as : goal.returns-then-not-serves_as
returns-then-not-serves_as c = λ unit s p E x e h o n.
    status-unmet (Unit {0}) unit s p E x (value_of c.args.specified.now) (path_in c.args.way.now) e c.in_ok-fault.field-0 (value_of c.args.value.now) h
    (λ q. true≢false (sym q ∙ sym c.serves_as.ensures ∙ c.if-not-serves_as.true)) c.in_ok-fault.ensures

pub returns-then-not-branch : goal.returns-then-not-branch
returns-then-not-branch c = λ unit s p E x e h o n.
    general-unmet (Unit {0}) unit s p E x (value_of c.args.specified.now) (path_in c.args.way.now) e c.in_ok-fault-2.field-0 (value_of c.args.value.now) h
    (over-known (length c.args.value.now.scheme.value.variables.items) (type_of c.args.value.now.scheme.value.body.value) o) n (sym c.serves_as.ensures ∙ c.if-not-serves_as.false)
    (told-as (λ σ τ. c.in_ok-is_general.field-0 ≡ false → ¬ (IsGeneral naming σ τ)) c.deref.result.now c.deref-2.result.now c.args.value.now.scheme.value c.args.specified.now.scheme.value
    c.deref.ensures c.deref-2.ensures c.in_ok-is_general.ensures.no n o c.if-not-branch.true)
    c.in_ok-fault-2.ensures

pub returns : goal.returns
returns c = λ unit s p E x e h o n rest r g.
    value-met unit s p E x (value_of c.args.specified.now) rest (value_of c.args.value.now) h
    (over-known (length c.args.value.now.scheme.value.variables.items) (type_of c.args.value.now.scheme.value.body.value) o) n (sym c.serves_as.ensures ∙ c.if-not-serves_as.false) r
    (told-as (λ σ τ. c.in_ok-is_general.field-0 ≡ true → IsGeneral naming σ τ) c.deref.result.now c.deref-2.result.now c.args.value.now.scheme.value c.args.specified.now.scheme.value
    c.deref.ensures c.deref-2.ensures c.in_ok-is_general.ensures.yes n o c.if-not-branch.false)
    g
