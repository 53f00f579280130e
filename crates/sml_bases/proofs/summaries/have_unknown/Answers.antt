use Rattle.std.proofs.Common.{ap, sym, ◌∙◌}
use Rattle.sml_objects.specs.Views.{type_of}
use Rattle.sml_core_rules.specs.Values.{has_unknown}
use Rattle.sml_bases.proofs.SomeEntries.{found, none-more}
use Rattle.sml_bases.proofs.Unknowns.{an-unknown, no-unknown}
use Rattle.sml_bases.proofs.summaries.have_unknown.Goals as goal

pub returns-then-not-is_ground : goal.returns-then-not-is_ground
returns-then-not-is_ground c =
    sym
    (found (λ v. type_of v.scheme.value.body.value) has_unknown c.args.values.now.entries c.into_iter-value-iterator.result c.loop-value.value-iterator c.next.new.self
    c.loop-value.yielded c.next.result (c.in-Some.field-0-0, c.in-Some.value) c.into_iter-value-iterator.ensures.into_iter_gives.0 c.loop-value.yielded_by c.in-Some.is
    c.next.ensures.steps (ap (λ s. has_unknown (type_of s.body.value)) (sym c.deref.ensures) ∙ ap (λ t. has_unknown (type_of t)) (sym c.deref-in-loop-value.ensures) ∙ an-unknown (has_unknown (type_of c.deref-in-loop-value.result.now)) c.if-not-is_ground.ensures))

pub loop-value-preserved : goal.loop-value-preserved
loop-value-preserved c =
    none-more (λ v. type_of v.scheme.value.body.value) has_unknown c.loop-value.yielded c.in-Some.field-0-0 c.in-Some.value c.loop-value.invariant
    (ap (λ s. has_unknown (type_of s.body.value)) (sym c.deref.ensures) ∙ ap (λ t. has_unknown (type_of t)) (sym c.deref-in-loop-value.ensures) ∙ no-unknown (has_unknown (type_of c.deref-in-loop-value.result.now)) c.if-not-is_ground.ensures)
