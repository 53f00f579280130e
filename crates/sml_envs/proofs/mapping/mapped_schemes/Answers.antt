use Rattle.std.proofs.Common.{◌≡◌, ap, sym, subst, ◌∙◌, map, [], ◌∷◌, rules}
use Rattle.std.proofs.lemmas.List.{map-append}
use Rattle.std.proofs.lemmas.Map.Iter.{iter_end}
use Rattle.std.specs.Map.Iter.{deref_pair}
use Rattle.sml_objects.specs.Maps.{join}
use Rattle.sml_objects.specs.Views.{scheme_of, schemes_of}
use Rattle.sml_objects.proofs.SortedMaps.{mapped-next, put-in-order}
use Rattle.sml_type_maps.specs.Orders.{AreOrdered, scheme_by, schemes_by}
use Rattle.sml_envs.proofs.SchemeMaps.{ordered-split}
use Rattle.sml_envs.proofs.mapping.mapped_schemes.Goals as goal

pub loop-name-preserved-in_ok-insert : goal.loop-name-preserved-in_ok-insert
loop-name-preserved-in_ok-insert g c = λ o.
    let h = scheme_by (g.M.Mapping.bound_gives c.args.by.now) (g.M.Mapping.free_gives c.args.by.now) (g.M.Mapping.name_gives c.args.by.now) in
    let ys = map deref_pair c.loop-name.yielded in
    let more = map-append deref_pair c.loop-name.yielded ((c.in-Some.name, c.in-Some.scheme) ∷ []) in
    let parts = ordered-split ys c.in-Some.name.now c.in-Some.scheme.now (subst (λ l. AreOrdered (schemes_of l)) more o) in
    mapped-next (λ s. scheme_of s.value) h c.loop-name.copies.entries c.insert.new.self.entries ys _ c.in_ok-clone.field-0 c.in-Some.name.now
    c.in_ok-mapped_scheme.field-0 c.in-Some.scheme.now c.in_ok-insert.ensures.entries more (ap (λ v. v.items) c.in_ok-clone.ensures.cases)
    (c.in_ok-mapped_scheme.ensures parts.1) (c.loop-name.invariant parts.0)

pub loop-name-preserved : goal.loop-name-preserved
loop-name-preserved g c = λ o.
    let h = scheme_by (g.M.Mapping.bound_gives c.args.by.now) (g.M.Mapping.free_gives c.args.by.now) (g.M.Mapping.name_gives c.args.by.now) in
    let ys = map deref_pair c.loop-name.yielded in
    let more = map-append deref_pair c.loop-name.yielded ((c.in-Some.name, c.in-Some.scheme) ∷ []) in
    let parts = ordered-split ys c.in-Some.name.now c.in-Some.scheme.now (subst (λ l. AreOrdered (schemes_of l)) more o) in
    mapped-next (λ s. scheme_of s.value) h c.loop-name.copies.entries c.insert.new.self.entries ys _ c.in_ok-clone.field-0 c.in-Some.name.now
    c.in_ok-mapped_scheme.field-0 c.in-Some.scheme.now c.in_ok-insert.ensures.entries more (ap (λ v. v.items) c.in_ok-clone.ensures.cases)
    (c.in_ok-mapped_scheme.ensures parts.1) (c.loop-name.invariant parts.0)

pub returns : goal.returns
returns g c = λ o.
    let b = g.M.Mapping.bound_gives c.args.by.now in
    let f = g.M.Mapping.free_gives c.args.by.now in
    let n = g.M.Mapping.name_gives c.args.by.now in
    let whole : map deref_pair c.loop-name.yielded ≡ c.args.schemes.now.entries = search (rules, iter_end) in
    c.loop-name.invariant (subst (λ l. AreOrdered (schemes_of l)) (sym whole) o)
    ∙ ap (λ l. join [] (schemes_by b f n (schemes_of l))) whole
    ∙ put-in-order (λ s. scheme_of s.value) (scheme_by b f n) c.args.schemes.now.entries c.into_iter-name-iterator.ensures.into_iter_gives.5
