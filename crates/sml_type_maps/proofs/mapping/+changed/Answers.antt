use Rattle.std.proofs.Common.{◌≡◌, IfOk, ap, sym, subst, ◌∙◌, map}
use Rattle.sml_objects.specs.Objects as O
use Rattle.sml_objects.specs.Objects.{types_of}
use Rattle.sml_objects.specs.Fates.{type_or, seen_type}
use Rattle.sml_objects.specs.Views.{type_of, label_list, name_of, row_of}
use Rattle.sml_objects.specs.declared.objects.MlType.TheViews as V
use Rattle.sml_objects.proofs.TypeViews.{type_of-bound, type_of-free, type_of-row, type_of-arrow, type_of-name}
use Rattle.sml_type_maps.specs.Mapped.{IsChanged, seen, types_or}
use Rattle.sml_type_maps.proofs.TypeMaps.{boxed-at, by, by-arrow, by-bound, by-free, by-name, changed-at, parts-change, row-changes, row-stays}
use Rattle.sml_type_maps.proofs.mapping.+changed.Goals as goal

pub changed_type-returns-in-Bound : goal.changed_type-returns-in-Bound
changed_type-returns-in-Bound g t c =
    let b = g.M.Mapping.bound_gives c.args.by.now in
    let f = g.M.Mapping.free_gives c.args.by.now in
    let n = g.M.Mapping.name_gives c.args.by.now in
    let is = ap type_of c.in-Bound.is in
    changed-at c.bound.result _ _ _ _ (sym (is ∙ type_of-bound c.in-Bound.variable)) (sym (ap (by b f n) is ∙ by-bound b f n c.in-Bound.variable)) c.bound.ensures

pub changed_type-returns-in-Free : goal.changed_type-returns-in-Free
changed_type-returns-in-Free g t c =
    let b = g.M.Mapping.bound_gives c.args.by.now in
    let f = g.M.Mapping.free_gives c.args.by.now in
    let n = g.M.Mapping.name_gives c.args.by.now in
    let is = ap type_of c.in-Free.is in
    changed-at c.free.result _ _ _ _ (sym (is ∙ type_of-free c.in-Free.variable)) (sym (ap (by b f n) is ∙ by-free b f n c.in-Free.variable)) c.free.ensures

pub changed_type-returns-in-None : goal.changed_type-returns-in-None
changed_type-returns-in-None g t c =
    let b = g.M.Mapping.bound_gives c.args.by.now in
    let f = g.M.Mapping.free_gives c.args.by.now in
    let n = g.M.Mapping.name_gives c.args.by.now in
    subst (λ u. type_of u ≡ by b f n (type_of u)) (sym c.in-Row.is)
    (row-stays b f n c.in-Row.labels c.in-Row.parts c.deref.result.now c.in_ok-changed_parts-in-Row.field-0 c.deref.ensures.value c.in-None.is c.in_ok-changed_parts-in-Row.ensures)

pub changed_type-returns-in_ok-clone-in-Some : goal.changed_type-returns-in_ok-clone-in-Some
changed_type-returns-in_ok-clone-in-Some g t c =
    let b = g.M.Mapping.bound_gives c.args.by.now in
    let f = g.M.Mapping.free_gives c.args.by.now in
    let n = g.M.Mapping.name_gives c.args.by.now in
    boxed-at c.boxed.result _ _ _
    (row-changes b f n c.in-Row.labels c.in_ok-clone-in-Some.field-0 c.in-Row.parts c.in-Some.parts c.deref.result.now c.in_ok-changed_parts-in-Row.field-0
    c.in_ok-clone-in-Some.ensures.cases c.deref.ensures.value c.in-Some.is c.in_ok-changed_parts-in-Row.ensures
    ∙ ap (λ u. by b f n (type_of u)) (sym c.in-Row.is))
    c.boxed.ensures

pub changed_type-returns-in_ok-new_to-in-Arrow : goal.changed_type-returns-in_ok-new_to-in-Arrow
changed_type-returns-in_ok-new_to-in-Arrow g t c =
    let b = g.M.Mapping.bound_gives c.args.by.now in
    let f = g.M.Mapping.free_gives c.args.by.now in
    let n = g.M.Mapping.name_gives c.args.by.now in
    let is = ap type_of c.in-Arrow.is in
    let from = c.in-Arrow.from in
    let to = c.in-Arrow.to in
    let one = c.in_ok-new_from-in-Arrow.new_from in
    let other = c.in_ok-new_to-in-Arrow.new_to in
    let e : type_or (type_of from.value) (seen_type one) ≡ by b f n (type_of from.value) =
    subst (λ u. IsChanged one (type_of u) (by b f n (type_of u))) c.deref-in-Arrow.ensures c.in_ok-new_from-in-Arrow.ensures in
    let h : type_or (type_of to.value) (seen_type other) ≡ by b f n (type_of to.value) =
    subst (λ u. IsChanged other (type_of u) (by b f n (type_of u))) c.deref-in-Arrow-2.ensures c.in_ok-new_to-in-Arrow.ensures in
    changed-at c.changed_arrow.result _ _ _ _ (sym (is ∙ type_of-arrow from to))
    ((λ i. O.arrow_of (e i) (h i)) ∙ sym (ap (by b f n) is ∙ by-arrow b f n from to)) c.changed_arrow.ensures

pub changed_type-returns-in_ok-changed-in-Name : goal.changed_type-returns-in_ok-changed-in-Name
changed_type-returns-in_ok-changed-in-Name g t c =
    let b = g.M.Mapping.bound_gives c.args.by.now in
    let f = g.M.Mapping.free_gives c.args.by.now in
    let n = g.M.Mapping.name_gives c.args.by.now in
    let is = ap type_of c.in-Name.is in
    let k = c.in-Name.name in
    let ts = c.in-Name.parts in
    let changed = c.in_ok-changed-in-Name.changed in
    let same : types_or (seen c.deref-in-Name-2.result.now) changed ≡ map (λ t. by b f n (type_of t.value)) ts.items =
    parts-change b f n c.deref-in-Name.result.now c.deref-in-Name-2.result.now ts.items changed c.deref-in-Name.ensures.value c.deref-in-Name-2.ensures.value c.in_ok-changed-in-Name.ensures in
    changed-at c.changed_name.result _ _ _ _
    (ap (λ l. O.app (O.name (name_of k)) (types_of (seen l))) c.deref-in-Name-2.ensures.value ∙ sym (is ∙ type_of-name k ts))
    (ap (λ l. n (name_of k) (types_of l)) same ∙ sym (ap (by b f n) is ∙ by-name b f n k ts)) c.changed_name.ensures
