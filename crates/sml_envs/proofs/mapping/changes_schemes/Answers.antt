use Rattle.std.proofs.Common.{◌≡◌, subst, map, [], ◌∷◌}
use Rattle.std.proofs.lemmas.List.{map-append}
use Rattle.std.specs.Map.Iter.{deref_pair}
use Rattle.sml_objects.specs.Views.{scheme_of, schemes_of}
use Rattle.sml_type_maps.specs.Orders.{AreOrdered, scheme_by}
use Rattle.sml_envs.proofs.SchemeMaps.{ordered-split, stays-at, stays-next}
use Rattle.sml_envs.proofs.mapping.changes_schemes.Goals as goal

pub loop-scheme-preserved : goal.loop-scheme-preserved
loop-scheme-preserved g c = λ o.
    let b = g.M.Mapping.bound_gives c.args.by.now in
    let f = g.M.Mapping.free_gives c.args.by.now in
    let n = g.M.Mapping.name_gives c.args.by.now in
    let ys = map deref_pair c.loop-scheme.yielded in
    let x = c.in-Some.field-0-0.now in
    let w = c.in-Some.scheme.now in
    let more = map-append deref_pair c.loop-scheme.yielded ((c.in-Some.field-0-0, c.in-Some.scheme) ∷ []) in
    let parts = ordered-split ys x w (subst (λ l. AreOrdered (schemes_of l)) more o) in
    let this : scheme_by b f n (scheme_of w.value) ≡ scheme_of w.value =
    stays-at b f n c.in_ok-changed_scheme.field-0 c.deref.result.now w.value c.deref.ensures parts.1 c.in_ok-changed_scheme.ensures c.if-is_some.ensures in
    stays-next b f n ys _ x w more (c.loop-scheme.invariant parts.0) this
