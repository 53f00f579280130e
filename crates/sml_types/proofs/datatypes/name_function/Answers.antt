use Rattle.std.proofs.Common.{◌≡◌, ◌++◌, ◌∷◌, ◌+◌, suc, [], ap, map, length, arith, ◌∙◌}
use Rattle.std.proofs.lemmas.List.{map-append}
use Rattle.sml_objects.specs.Objects as O
use Rattle.sml_objects.specs.Objects.{types_of}
use Rattle.sml_objects.specs.Views.{name_of, scheme_of, type_of}
use Rattle.sml_objects.proofs.TypeViews.{type_of-bound, type_of-name}
use Rattle.sml_types.proofs.Numbered.{bound-push, bound_from, named-scheme}
use Rattle.sml_types.proofs.datatypes.name_function.Goals as goal

pub loop-index-preserved : goal.loop-index-preserved
loop-index-preserved c =
    let i = c.loop-index.index in
    let next : suc i ≡ i + 1 = omega arith in
    let one : type_of c.in_ok-boxed.field-0.value ≡ O.bound i =
    ap type_of c.in_ok-boxed.ensures ∙ type_of-bound c.in_ok-number_of.field-0 ∙ ap O.bound c.in_ok-number_of.ensures in
    ap (map (λ t. type_of t.value)) c.in_ok-push.ensures.items
    ∙ map-append (λ t. type_of t.value) c.loop-index.parts.items (c.in_ok-boxed.field-0 ∷ [])
    ∙ (λ j. c.loop-index.invariant j ++ (one j ∷ []))
    ∙ bound-push 0 i i (omega arith)
    ∙ ap (bound_from 0) next

pub returns : goal.returns
returns c =
    ap scheme_of c.in_ok-new.ensures.ok
    ∙ named-scheme (name_of c.args.name) (length c.args.names.now) c.in_ok-variables.variables.items (type_of c.in_ok-body.body.value) c.in_ok-variables.ensures
    (ap type_of c.in_ok-body.ensures ∙ type_of-name c.args.name c.loop-index.parts
    ∙ ap (λ ts. O.app (O.name (name_of c.args.name)) (types_of ts)) (c.loop-index.invariant ∙ ap (bound_from 0) (omega (arith, c.loop-index-test.false, c.loop-index.auto.index-end))))
