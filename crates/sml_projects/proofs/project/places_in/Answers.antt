use Rattle.std.proofs.Common.{◌+◌, ◌<◌, map, length, ap, sym, subst, ◌∙◌, arith}
use Rattle.std.proofs.Math.ListN.{set}
use Rattle.std.proofs.lemmas.List.{length-map, get_or-map, take_all}
use Rattle.sml_objects.specs.declared.objects.UnitId.{UnitId}
use Rattle.sml_projects.proofs.Placing.{Placed, placed-more, all-placed}
use Rattle.sml_projects.proofs.project.places_in.Goals as goal

pub loop-place-preserved : goal.loop-place-preserved
loop-place-preserved c =
    let order = c.args.order.now in
    let ids = map (λ (u : UnitId). u.index) order in
    let i = c.loop-place.place in
    let long = length-map order (λ (u : UnitId). u.index) in
    let h : i < length ids = (let t = c.loop-place-test.true in omega (arith, t, long)) in
    let put = c.put.ensures ∙ ap (λ x. set c.loop-place.places.items x i) (sym (get_or-map (λ (u : UnitId). u.index) order i _ 0 c.loop-place-test.true)) in
    subst (Placed ids (i + 1)) (sym put) (placed-more ids c.loop-place.places.items i h c.loop-place.invariant)

pub returns : goal.returns
returns c =
    let order = c.args.order.now in
    let ids = map (λ (u : UnitId). u.index) order in
    let i = c.loop-place.place in
    let long = length-map order (λ (u : UnitId). u.index) in
    let past = c.loop-place-test.false in
    all-placed ids c.loop-place.places.items i (length order) (sym long) (take_all i ids (omega (arith, past, long))) c.loop-place.invariant
