use Rattle.std.proofs.Common.{subst, map, [], ◌∷◌}
use Rattle.std.proofs.lemmas.List.{map-append}
use Rattle.std.specs.Map.Iter.{deref_pair}
use Rattle.sml_objects.specs.Views.{entries_of}
use Rattle.sml_bases.specs.Views.{ty_str_of}
use Rattle.sml_envs.specs.Mapped.{Each, HasOrdered, ty_str_by}
use Rattle.sml_envs.proofs.EntryMaps.{each-split, stays-next}
use Rattle.sml_envs.proofs.mapping.types_change.Goals as goal

pub loop-ty-preserved : goal.loop-ty-preserved
loop-ty-preserved g c = λ o.
    let h = ty_str_by (g.M.Mapping.bound_gives c.args.by.now) (g.M.Mapping.free_gives c.args.by.now) (g.M.Mapping.name_gives c.args.by.now) in
    let ys = map deref_pair c.loop-ty.yielded in
    let x = c.in-Some.field-0-0.now in
    let w = c.in-Some.ty.now in
    let more = map-append deref_pair c.loop-ty.yielded ((c.in-Some.field-0-0, c.in-Some.ty) ∷ []) in
    let parts = each-split ty_str_of HasOrdered ys x w (subst (λ l. Each HasOrdered (entries_of ty_str_of l)) more o) in
    stays-next ty_str_of h ys _ x w more (c.loop-ty.invariant parts.0) (c.in_ok-changes_type_str.ensures parts.1 c.if-branch.false)
