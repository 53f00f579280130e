use Rattle.std.proofs.Common.{◌≡◌, subst, map, [], ◌∷◌}
use Rattle.std.proofs.lemmas.List.{map-append}
use Rattle.std.specs.Map.Iter.{deref_pair}
use Rattle.sml_objects.specs.Views.{entries_of, scheme_of}
use Rattle.sml_type_maps.specs.Orders.{scheme_by}
use Rattle.sml_bases.specs.Views.{value_of}
use Rattle.sml_envs.specs.Mapped.{Each, IsOrderedValue, value_by}
use Rattle.sml_envs.proofs.EntryMaps.{each-split, stays-next}
use Rattle.sml_envs.proofs.SchemeMaps.{stays-at}
use Rattle.sml_envs.proofs.mapping.values_change.Goals as goal

pub loop-value-preserved : goal.loop-value-preserved
loop-value-preserved g c = λ o.
    let b = g.M.Mapping.bound_gives c.args.by.now in
    let f = g.M.Mapping.free_gives c.args.by.now in
    let n = g.M.Mapping.name_gives c.args.by.now in
    let h = value_by b f n in
    let ys = map deref_pair c.loop-value.yielded in
    let x = c.in-Some.field-0-0.now in
    let w = c.in-Some.value.now in
    let more = map-append deref_pair c.loop-value.yielded ((c.in-Some.field-0-0, c.in-Some.value) ∷ []) in
    let parts = each-split value_of IsOrderedValue ys x w (subst (λ l. Each IsOrderedValue (entries_of value_of l)) more o) in
    let this : scheme_by b f n (scheme_of w.scheme.value) ≡ scheme_of w.scheme.value =
    stays-at b f n c.in_ok-changed_scheme.field-0 c.deref.result.now w.scheme.value c.deref.ensures parts.1 c.in_ok-changed_scheme.ensures c.if-is_some.ensures in
    stays-next value_of h ys _ x w more (c.loop-value.invariant parts.0) (λ i. record { scheme = this i; status = (value_of w).status })
