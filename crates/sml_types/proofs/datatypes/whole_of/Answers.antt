use Rattle.std.proofs.Common.{◌≡◌, ◌++◌, ◌∷◌, ◌+◌, suc, [], ap, map, arith, ◌∙◌}
use Rattle.std.proofs.lemmas.List.{map-append}
use Rattle.std.proofs.lemmas.Result.{IfOk-weaker}
use Rattle.sml_objects.specs.Objects as O
use Rattle.sml_objects.specs.Objects.{types_of}
use Rattle.sml_objects.specs.Views.{name_of, type_of}
use Rattle.sml_objects.proofs.TypeViews.{type_of-free, type_of-name}
use Rattle.sml_types.proofs.Losing.{free-push, free-types, free_from}
use Rattle.sml_types.proofs.datatypes.whole_of.Goals as goal

pub loop-index-preserved : goal.loop-index-preserved
loop-index-preserved c =
    let i = c.loop-index.index in
    let next : suc i ≡ i + 1 = omega arith in
    let one : type_of c.in_ok-boxed.field-0.value ≡ O.free i =
    ap type_of c.in_ok-boxed.ensures ∙ type_of-free c.in_ok-number_of.field-0 ∙ ap O.free c.in_ok-number_of.ensures in
    ap (map (λ t. type_of t.value)) c.in_ok-push.ensures.items
    ∙ map-append (λ t. type_of t.value) c.loop-index.parameters.items (c.in_ok-boxed.field-0 ∷ [])
    ∙ (λ j. c.loop-index.invariant j ++ (one j ∷ []))
    ∙ free-push 0 i i (omega arith)
    ∙ ap (free_from 0) next

pub returns : goal.returns
returns c =
    IfOk-weaker c.boxed-2.result _ _ (λ t h.
    ap type_of h ∙ type_of-name c.args.name c.loop-index.parameters
    ∙ ap (λ ts. O.app (O.name (name_of c.args.name)) (types_of ts)) (c.loop-index.invariant ∙ ap (free_from 0) (omega (arith, c.loop-index-test.false, c.loop-index.auto.index-end)))
    ∙ ap (O.app (O.name (name_of c.args.name))) (free-types 0 c.args.count)) c.boxed-2.ensures
