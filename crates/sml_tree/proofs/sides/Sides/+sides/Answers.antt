use Rattle.std.proofs.Common.{◌∙◌, ap, sym, map, refl}
use Rattle.sml_tree.specs.TypeViews.{ty_of, tys_of, long_name_of}
use Rattle.sml_tree.specs.BindingViews.{typ_bind_of}
use Rattle.sml_tree.specs.Withtype.{all_replaced, replaced}
use Rattle.sml_tree.specs.Height.{counted}
use Rattle.sml_tree.specs.Heights.{ty_height, tys_height}
use Rattle.sml_tree.specs.CodeDepths.{reached}
use Rattle.sml_tree.proofs.RightSides.{ty_of-constructor, all_replaced_count, either_way, one_higher}
use Rattle.sml_tree.proofs.sides.Sides.+sides.Goals as goal

pub height_of_ty-returns-in-Some : goal.height_of_ty-returns-in-Some
height_of_ty-returns-in-Some t c =
    let binds = map typ_bind_of c.args.self.now.types.items in
    let tys = c.in-Constructor.tys.items in
    let depths = c.in-Some.side.now.depths.items in
    let count = all_replaced_count binds tys ∙ sym (c.len.ensures ∙ c.in-Constructor.tys.ok.0) in
    let reach = c.reached.ensures ∙ ap (λ ds. reached ds (all_replaced binds (tys_of (map ty_of c.deref-in-Some-2.result.now)))) c.deref-in-Some.ensures.value ∙ ap (λ ts. reached depths (all_replaced binds (tys_of (map ty_of ts)))) c.deref-in-Some-2.ensures.value in
    either_way _ _ _ _ c.max.ensures reach
    ∙ sym (c.in-Some.ensures.some.1 c.in-Constructor.field-0 (all_replaced binds (tys_of (map ty_of tys))) (long_name_of c.in-Constructor.constructor) refl count)
    ∙ sym (ap (λ u. counted (ty_height (replaced binds (ty_of u)))) c.in-Constructor.is ∙ ap (λ u. counted (ty_height (replaced binds u))) (ty_of-constructor c.in-Constructor.field-0 c.in-Constructor.tys c.in-Constructor.constructor))

pub height_of_ty-returns-in-None : goal.height_of_ty-returns-in-None
height_of_ty-returns-in-None t c =
    let binds = map typ_bind_of c.args.self.now.types.items in
    let tys = c.in-Constructor.tys.items in
    let count = all_replaced_count binds tys ∙ sym (c.len.ensures ∙ c.in-Constructor.tys.ok.0) in
    let below = c.height_of_tys-in-None.ensures ∙ ap (λ ts. counted (tys_height (all_replaced binds (tys_of (map ty_of ts))))) c.deref-in-None.ensures.value in
    one_higher _ _ _ c.saturating_add-in-None.ensures below
    ∙ sym (ap counted (c.in-None.ensures.none c.in-Constructor.field-0 (all_replaced binds (tys_of (map ty_of tys))) (long_name_of c.in-Constructor.constructor) refl count))
    ∙ sym (ap (λ u. counted (ty_height (replaced binds (ty_of u)))) c.in-Constructor.is ∙ ap (λ u. counted (ty_height (replaced binds u))) (ty_of-constructor c.in-Constructor.field-0 c.in-Constructor.tys c.in-Constructor.constructor))
