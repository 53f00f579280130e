use Rattle.std.proofs.Common.{suc, ◌&&◌, drop, ap, sym, ◌∙◌, add-one, eq-eqb}
use Rattle.std.proofs.lemmas.Bool.{ne_eqb}
use Rattle.std.proofs.lemmas.List.{drop_all}
use Rattle.sml_objects.specs.Objects.{types_of}
use Rattle.sml_core_rules.specs.Functions.{are_parameters}
use Rattle.sml_type_maps.specs.Mapped.{seen}
use Rattle.sml_type_maps.proofs.FunctionViews.{in_order, order-at, order-bound, order-other}
use Rattle.sml_type_maps.proofs.functions.are_variables.Goals as goal

pub returns-then-variable-index : goal.returns-then-variable-index
returns-then-variable-index c =
    let xs = c.args.parts.now in
    let i = c.loop-index.index in
    let rest = types_of (seen (drop (suc i) xs)) in
    sym (c.loop-index.invariant ∙ order-at xs i c.index-parts-index.result c.deref.result.now c.loop-index-test.true c.index-parts-index.is c.deref.ensures
    ∙ order-bound i c.in-Bound.variable c.deref.result.now rest c.in-Bound.is
    ∙ ap (λ b. b && are_parameters (suc i) rest) (ne_eqb c.in-Bound.variable i c.if-variable-index.true))

pub returns-in_default : goal.returns-in_default
returns-in_default c =
    let xs = c.args.parts.now in
    let i = c.loop-index.index in
    sym (c.loop-index.invariant ∙ order-at xs i c.index-parts-index.result c.deref.result.now c.loop-index-test.true c.index-parts-index.is c.deref.ensures
    ∙ order-other i c.deref.result.now (types_of (seen (drop (suc i) xs))) c.in_default.not-Bound)

pub loop-index-preserved : goal.loop-index-preserved
loop-index-preserved c =
    let xs = c.args.parts.now in
    let i = c.loop-index.index in
    let rest = types_of (seen (drop (suc i) xs)) in
    c.loop-index.invariant ∙ order-at xs i c.index-parts-index.result c.deref.result.now c.loop-index-test.true c.index-parts-index.is c.deref.ensures
    ∙ order-bound i c.in-Bound.variable c.deref.result.now rest c.in-Bound.is
    ∙ ap (λ b. b && are_parameters (suc i) rest) (eq-eqb c.in-Bound.variable i c.if-variable-index.false)
    ∙ ap (λ k. in_order k (drop k xs)) (sym (add-one i))

pub returns : goal.returns
unfolding are_parameters
returns c =
    sym (c.loop-index.invariant ∙ ap (in_order c.loop-index.index) (drop_all c.loop-index.index c.args.parts.now c.loop-index-test.false))
