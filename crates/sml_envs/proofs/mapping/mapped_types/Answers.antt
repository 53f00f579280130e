use Rattle.std.proofs.Common.{◌≡◌, ap, sym, subst, ◌∙◌, map, [], ◌∷◌, rules}
use Rattle.std.proofs.lemmas.List.{map-append}
use Rattle.std.proofs.lemmas.Map.Iter.{iter_end}
use Rattle.std.specs.Map.Iter.{deref_pair}
use Rattle.sml_objects.specs.Maps.{join}
use Rattle.sml_objects.specs.Views.{entries_of}
use Rattle.sml_objects.proofs.SortedMaps.{mapped-next, put-in-order}
use Rattle.sml_core_rules.specs.Objects.{replaced}
use Rattle.sml_bases.specs.Views.{ty_str_of}
use Rattle.sml_envs.specs.Mapped.{Each, HasOrdered, ty_str_by}
use Rattle.sml_envs.proofs.EntryMaps.{each-split}
use Rattle.sml_envs.proofs.mapping.mapped_types.Goals as goal

pub loop-name-preserved-in_ok-insert : goal.loop-name-preserved-in_ok-insert
loop-name-preserved-in_ok-insert g c = λ o.
    let h = ty_str_by (g.M.Mapping.bound_gives c.args.by.now) (g.M.Mapping.free_gives c.args.by.now) (g.M.Mapping.name_gives c.args.by.now) in
    let ys = map deref_pair c.loop-name.yielded in
    let more = map-append deref_pair c.loop-name.yielded ((c.in-Some.name, c.in-Some.ty) ∷ []) in
    let parts = each-split ty_str_of HasOrdered ys c.in-Some.name.now c.in-Some.ty.now (subst (λ l. Each HasOrdered (entries_of ty_str_of l)) more o) in
    mapped-next ty_str_of h c.loop-name.copies.entries c.insert.new.self.entries ys _ c.in_ok-clone.field-0 c.in-Some.name.now c.in_ok-copy.copy
    c.in-Some.ty.now c.in_ok-insert.ensures.entries more (ap (λ v. v.items) c.in_ok-clone.ensures.cases)
    (c.in_ok-copy.ensures parts.1) (c.loop-name.invariant parts.0)

pub loop-name-preserved : goal.loop-name-preserved
loop-name-preserved g c = λ o.
    let h = ty_str_by (g.M.Mapping.bound_gives c.args.by.now) (g.M.Mapping.free_gives c.args.by.now) (g.M.Mapping.name_gives c.args.by.now) in
    let ys = map deref_pair c.loop-name.yielded in
    let more = map-append deref_pair c.loop-name.yielded ((c.in-Some.name, c.in-Some.ty) ∷ []) in
    let parts = each-split ty_str_of HasOrdered ys c.in-Some.name.now c.in-Some.ty.now (subst (λ l. Each HasOrdered (entries_of ty_str_of l)) more o) in
    mapped-next ty_str_of h c.loop-name.copies.entries c.insert.new.self.entries ys _ c.in_ok-clone.field-0 c.in-Some.name.now c.in_ok-copy.copy
    c.in-Some.ty.now c.in_ok-insert.ensures.entries more (ap (λ v. v.items) c.in_ok-clone.ensures.cases)
    (c.in_ok-copy.ensures parts.1) (c.loop-name.invariant parts.0)

pub returns : goal.returns
returns g c = λ o.
    let h = ty_str_by (g.M.Mapping.bound_gives c.args.by.now) (g.M.Mapping.free_gives c.args.by.now) (g.M.Mapping.name_gives c.args.by.now) in
    let whole : map deref_pair c.loop-name.yielded ≡ c.args.types.now.entries = search (rules, iter_end) in
    c.loop-name.invariant (subst (λ l. Each HasOrdered (entries_of ty_str_of l)) (sym whole) o)
    ∙ ap (λ l. join [] (replaced h (entries_of ty_str_of l))) whole
    ∙ put-in-order ty_str_of h c.args.types.now.entries c.into_iter-name-iterator.ensures.into_iter_gives.5
