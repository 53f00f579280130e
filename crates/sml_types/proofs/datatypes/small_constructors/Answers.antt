use Rattle.std.proofs.Common.{◌≡◌, Err, length, map, subst, sym, ap, ◌∙◌, arith, take}
use Rattle.std.specs.Vec.{vec_len}
use Rattle.sml_tree.specs.declared.expressions.DatBind.{DatBind}
use Rattle.sml_types.specs.Datatypes.{SmallAnswer, constructor_size, constructor_sizes, meant_argument}
use Rattle.sml_types.proofs.ConstructorSizes.{AllFit, fit-at, fit-both, part-large, sizes, sizes-all, sizes-next, small-through}
use Rattle.sml_types.proofs.datatypes.small_constructors.Goals as goal

pub returns-in_err-small_arguments : goal.returns-in_err-small_arguments
returns-in_err-small_arguments c =
    let i = c.loop-index.index in
    let ds = c.args.binds.now in
    let gs = c.args.all.now in
    let d = c.index-binds-index.result in
    let g = c.index-all-index.result in
    let e = c.in_err-small_arguments.field-0.0 in
    let count : c.in_ok-parameters.parameters ≡ length d.variables.items = c.in_ok-parameters.ensures ∙ c.len.ensures ∙ sym (ap (λ (d : DatBind). vec_len d.variables) c.index-binds-index.is) ∙ d.variables.ok.0 in
    small-through c.from_residual-in_err-small_arguments.result e c.args.place _ c.from_residual-in_err-small_arguments.ensures.1
    (part-large c.args.place (constructor_sizes ds gs) (sizes d g) e
    (fit-at ds gs i d g (omega (arith, c.loop-index-test.true, c.min-count.ensures)) (omega (arith, c.loop-index-test.true, c.min-count.ensures)) c.index-binds-index.is c.index-all-index.is)
    (subst (SmallAnswer (Err e) c.args.place) (λ j. map (constructor_size (count j)) (map meant_argument (c.deref.ensures.value j))) c.in_err-small_arguments.ensures))

pub loop-index-preserved : goal.loop-index-preserved
loop-index-preserved c =
    let i = c.loop-index.index in
    let ds = c.args.binds.now in
    let gs = c.args.all.now in
    let d = c.index-binds-index.result in
    let g = c.index-all-index.result in
    let count : c.in_ok-parameters.parameters ≡ length d.variables.items = c.in_ok-parameters.ensures ∙ c.len.ensures ∙ sym (ap (λ (d : DatBind). vec_len d.variables) c.index-binds-index.is) ∙ d.variables.ok.0 in
    subst AllFit
    (sym (sizes-next ds gs i d g (omega (arith, c.loop-index-test.true, c.min-count.ensures)) (omega (arith, c.loop-index-test.true, c.min-count.ensures)) c.index-binds-index.is c.index-all-index.is))
    (fit-both (constructor_sizes (take i ds) (take i gs)) (sizes d g) c.loop-index.invariant
    (subst AllFit (λ j. map (constructor_size (count j)) (map meant_argument (c.deref.ensures.value j))) c.in_ok-small_arguments.ensures))

pub returns : goal.returns
returns c =
    subst AllFit (sizes-all c.args.binds.now c.args.all.now c.loop-index.index (omega (arith, c.loop-index-test.false, c.loop-index.auto.index-end, c.min-count.ensures))) c.loop-index.invariant
