use Rattle.std.proofs.Common.{max, ap, sym, ◌∙◌}
use Rattle.std.proofs.lemmas.List.{take_all}
use Rattle.sml_objects.specs.Objects.{types_of}
use Rattle.sml_objects.specs.Views.{type_of}
use Rattle.sml_type_maps.specs.Functions.{arity_needed, arity_needed_all}
use Rattle.sml_type_maps.specs.Mapped.{seen}
use Rattle.sml_type_maps.proofs.Arities.{arity-arrow, arity-bound, arity-free, arity-next, arity-none, arity-parts}
use Rattle.sml_type_maps.proofs.functions.+arity.Goals as goal

pub least_arity-returns-in-Bound : goal.least_arity-returns-in-Bound
least_arity-returns-in-Bound t c = sym (arity-bound c.args.body.now c.in-Bound.variable c.in-Bound.is)

pub least_arity-returns-in-Free : goal.least_arity-returns-in-Free
least_arity-returns-in-Free t c = sym (arity-free c.args.body.now c.in-Free.field-0 c.in-Free.is)

pub least_arity-returns-in-Row : goal.least_arity-returns-in-Row
least_arity-returns-in-Row t c =
    c.greatest_arity.ensures ∙ ap (λ ts. arity_needed_all (types_of (seen ts))) c.deref-in-Row.ensures.value ∙ sym (arity-parts c.args.body.now c.in-Row.parts c.in-Row.is)

pub least_arity-returns-in-Arrow : goal.least_arity-returns-in-Arrow
least_arity-returns-in-Arrow t c =
    c.max.ensures
    ∙ (λ i. max ((c.least_arity.ensures ∙ ap (λ u. arity_needed (type_of u)) c.deref.ensures) i) ((c.least_arity-in-Arrow.ensures ∙ ap (λ u. arity_needed (type_of u)) c.deref-in-Arrow.ensures) i))
    ∙ sym (arity-arrow c.args.body.now c.in-Arrow.from c.in-Arrow.to c.in-Arrow.is)

pub greatest_arity-loop-part-init : goal.greatest_arity-loop-part-init
greatest_arity-loop-part-init t c = sym arity-none

pub greatest_arity-loop-part-preserved : goal.greatest_arity-loop-part-preserved
greatest_arity-loop-part-preserved t c =
    c.max-arity.ensures
    ∙ (λ i. max (c.loop-part.invariant i) ((c.least_arity.ensures ∙ ap (λ u. arity_needed (type_of u)) c.deref.ensures) i))
    ∙ sym (arity-next c.args.parts.now c.loop-part.part-index c.part-item.result c.loop-part-test.true c.part-item.is)

pub greatest_arity-returns : goal.greatest_arity-returns
greatest_arity-returns t c =
    c.loop-part.invariant ∙ ap (λ l. arity_needed_all (types_of (seen l))) (take_all c.loop-part.part-index c.args.parts.now c.loop-part-test.false)
