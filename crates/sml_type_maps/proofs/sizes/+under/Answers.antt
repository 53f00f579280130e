use Rattle.std.proofs.Common.{◌≡◌, ◌*◌, length, arith, ap, ◌∙◌, sym, subst, take, ◌++◌, ◌∷◌, [], refl}
use Rattle.std.proofs.lemmas.Grind.{take_at_read}
use Rattle.std.proofs.lemmas.List.{length_push}
use Rattle.std.proofs.lemmas.Slice.Zip.{zip_turn, zip_end}
use Rattle.std.specs.Iterator.Adapters.{zip_first, zip_second}
use Rattle.std.specs.Slice.Iter.{iter_rest}
use Rattle.sml_objects.specs.Objects as O
use Rattle.sml_objects.specs.Objects.{types_of}
use Rattle.sml_objects.specs.Fates.{seen_type}
use Rattle.sml_objects.specs.Views.{type_of, label_list, name_of, scheme_of}
use Rattle.sml_objects.specs.Types.{applied}
use Rattle.sml_objects.proofs.TypeViews.{type_of-row, type_of-arrow, type_of-name}
use Rattle.sml_type_maps.specs.Mapped.{all_mapped, seen}
use Rattle.sml_type_maps.specs.Counted.{HasNodes}
use Rattle.sml_type_maps.proofs.TypeMaps.{by, by-bound, by-free}
use Rattle.sml_type_maps.proofs.AppliedSizes.{arrow-nodes, arrow-size, bound-size, counted, end-nodes, free-size, function-size, head-size, nodes-alone, none-size, ok-nodes, part-nodes, row-size, size-or-one, start-nodes, turn-nodes, unused-nodes}
use Rattle.sml_type_maps.proofs.sizes.+under.Goals as goal

pub add_under-returns-in_ok-bound-in-Bound : goal.add_under-returns-in_ok-bound-in-Bound
add_under-returns-in_ok-bound-in-Bound g t c =
    let b = g.M.Mapping.bound_gives c.args.by.now in
    let f = g.M.Mapping.free_gives c.args.by.now in
    let n = g.M.Mapping.name_gives c.args.by.now in
    let k = c.in-Bound.variable in
    let whole = ap (by b f n) (ap type_of c.in-Bound.is) ∙ by-bound b f n k in
    subst (λ x. HasNodes c.args.count.now c.add_image.new.self (c.args.times * x))
    (size-or-one (seen_type c.in_ok-bound-in-Bound.field-0) (O.bound k) _ (bound-size k) (c.in_ok-bound-in-Bound.ensures ∙ sym whole))
    c.add_image.ensures

pub add_under-returns-in_ok-free-in-Free : goal.add_under-returns-in_ok-free-in-Free
add_under-returns-in_ok-free-in-Free g t c =
    let b = g.M.Mapping.bound_gives c.args.by.now in
    let f = g.M.Mapping.free_gives c.args.by.now in
    let n = g.M.Mapping.name_gives c.args.by.now in
    let k = c.in-Free.variable in
    let whole = ap (by b f n) (ap type_of c.in-Free.is) ∙ by-free b f n k in
    subst (λ x. HasNodes c.args.count.now c.add_image-in-Free.new.self (c.args.times * x))
    (size-or-one (seen_type c.in_ok-free-in-Free.field-0) (O.free k) _ (free-size k) (c.in_ok-free-in-Free.ensures ∙ sym whole))
    c.add_image-in-Free.ensures

pub add_under-returns-in-Row : goal.add_under-returns-in-Row
add_under-returns-in-Row g t c =
    let b = g.M.Mapping.bound_gives c.args.by.now in
    let f = g.M.Mapping.free_gives c.args.by.now in
    let n = g.M.Mapping.name_gives c.args.by.now in
    let whole = ap type_of c.in-Row.is ∙ type_of-row c.in-Row.field-0 c.in-Row.parts
    ∙ ap (λ l. O.app (O.row (label_list c.in-Row.field-0.value)) (types_of (seen l))) (sym c.deref.ensures.value) in
    ok-nodes c.add_all_under.result c.args.count.now c.add_all_under.new.count c.args.count.now _ _
    (subst (λ x. HasNodes c.args.count.now c.add_all_under.new.count (c.args.times * x)) (row-size b f n (label_list c.in-Row.field-0.value) _ _ whole))
    c.add_all_under.ensures

pub add_under-returns-in_ok-add_under-in-Arrow : goal.add_under-returns-in_ok-add_under-in-Arrow
add_under-returns-in_ok-add_under-in-Arrow g t c =
    let b = g.M.Mapping.bound_gives c.args.by.now in
    let f = g.M.Mapping.free_gives c.args.by.now in
    let n = g.M.Mapping.name_gives c.args.by.now in
    let whole = ap type_of c.in-Arrow.is ∙ type_of-arrow c.in-Arrow.from c.in-Arrow.to
    ∙ (λ i. O.arrow_of (ap type_of (sym c.deref-in-Arrow.ensures) i) (ap type_of (sym c.deref-in-Arrow-2.ensures) i)) in
    arrow-nodes c.add_under-in-Arrow.result c.args.count.now c.add.new.self c.add_under.new.count c.add_under-in-Arrow.new.count c.args.times _ _ _
    c.add.ensures.nodes c.add.ensures.uses (arrow-size b f n _ _ _ whole) c.in_ok-add_under-in-Arrow.ensures c.add_under-in-Arrow.ensures

pub add_under-returns-in-Same : goal.add_under-returns-in-Same
add_under-returns-in-Same g t c =
    let b = g.M.Mapping.bound_gives c.args.by.now in
    let f = g.M.Mapping.free_gives c.args.by.now in
    let n = g.M.Mapping.name_gives c.args.by.now in
    let k = name_of c.in-Name.name in
    let ts = types_of (seen c.deref-in-Same.result.now) in
    let whole = ap type_of c.in-Name.is ∙ type_of-name c.in-Name.name c.in-Name.parts
    ∙ ap (λ l. O.app (O.name k) (types_of (seen l))) (sym c.deref-in-Same.ensures.value) in
    ok-nodes c.add_all_under-in-Same.result c.args.count.now c.add_all_under-in-Same.new.count c.args.count.now _ _
    (subst (λ x. HasNodes c.args.count.now c.add_all_under-in-Same.new.count (c.args.times * x))
    (head-size c.name.result k (all_mapped b f n ts) c.in-Same.is ∙ function-size b f n k ts _ _ whole (c.name.ensures (all_mapped b f n ts))))
    c.add_all_under-in-Same.ensures

pub add_under-returns-in-Function : goal.add_under-returns-in-Function
add_under-returns-in-Function g t c =
    let b = g.M.Mapping.bound_gives c.args.by.now in
    let f = g.M.Mapping.free_gives c.args.by.now in
    let n = g.M.Mapping.name_gives c.args.by.now in
    let k = name_of c.in-Name.name in
    let ts = types_of (seen c.deref-in-Function-2.result.now) in
    let whole = ap type_of c.in-Name.is ∙ type_of-name c.in-Name.name c.in-Name.parts
    ∙ ap (λ l. O.app (O.name k) (types_of (seen l))) (sym c.deref-in-Function-2.ensures.value) in
    ok-nodes c.add_applied.result c.args.count.now c.add_applied.new.count c.args.count.now _ _
    (subst (λ x. HasNodes c.args.count.now c.add_applied.new.count (c.args.times * x))
    (function-size b f n k ts _ _ whole
    (ap (λ s. applied (scheme_of s) (all_mapped b f n ts)) c.deref-in-Function.ensures ∙ c.in-Function.ensures (all_mapped b f n ts))))
    c.add_applied.ensures

pub add_all_under-loop-part-init : goal.add_all_under-loop-part-init
add_all_under-loop-part-init g t c =
    let b = g.M.Mapping.bound_gives c.args.by.now in
    let f = g.M.Mapping.free_gives c.args.by.now in
    let n = g.M.Mapping.name_gives c.args.by.now in
    nodes-alone c.args.count.now c.add.new.self c.args.times _ c.add.ensures.nodes c.add.ensures.uses
    (ap (λ x. c.args.times * x) (none-size b f n) ∙ omega arith)

pub add_all_under-loop-part-preserved : goal.add_all_under-loop-part-preserved
add_all_under-loop-part-preserved g t c =
    let b = g.M.Mapping.bound_gives c.args.by.now in
    let f = g.M.Mapping.free_gives c.args.by.now in
    let n = g.M.Mapping.name_gives c.args.by.now in
    let xs = c.args.parts.now in
    let x = c.part-item.result in
    let i = c.loop-part.part-index in
    let taken = (take_at_read xs i x c.loop-part-test.true).1 ∙ ap (λ y. take i xs ++ (y ∷ [])) (sym c.part-item.is) in
    part-nodes b f n c.args.count.now c.loop-part.count c.add_under.new.count c.args.times (take i xs) _ x _ taken (ap type_of c.deref.ensures)
    c.loop-part.invariant c.in_ok-add_under.ensures

pub add_applied-loop-part-init : goal.add_applied-loop-part-init
add_applied-loop-part-init g t c =
    let body = counted _ c.in_ok-body.body c.add_type.new.self _ _ (ap type_of c.deref.ensures) c.in_ok-body.ensures.0 c.in_ok-body.ensures.1 c.add_type.ensures in
    start-nodes c.args.count.now c.add.new.self c.add_type.new.self c.args.times _ c.saturating_mul.result _ body c.saturating_mul.ensures
    c.add.ensures.nodes c.add.ensures.uses

pub add_applied-loop-part-preserved-in-Continue-branch-2 :
    goal.add_applied-loop-part-preserved-in-Continue-branch-2
add_applied-loop-part-preserved-in-Continue-branch-2 g t c =
    let b = g.M.Mapping.bound_gives c.args.by.now in
    let f = g.M.Mapping.free_gives c.args.by.now in
    let n = g.M.Mapping.name_gives c.args.by.now in
    let ks = c.args.parts.now in
    let vs = c.add_type.new.self.uses.items in
    let first : iter_rest (zip_first c.into_iter-part-iterator.result) ≡ ks = cc in
    let second : iter_rest (zip_second c.into_iter-part-iterator.result) ≡ vs = cc in
    let turn = zip_turn ks vs c.loop-part.yielded c.into_iter-part-iterator.result c.loop-part.part-iterator c.next.new.self c.next.result first second c.loop-part.yielded_by (c.in-Some.part, c.in-Some.uses) c.in-Some.is c.next.ensures.steps in
    let body = counted _ c.in_ok-body.body c.add_type.new.self _ _ (ap type_of c.deref.ensures) c.in_ok-body.ensures.0 c.in_ok-body.ensures.1 c.add_type.ensures in
    turn-nodes b f n c.args.count.now c.loop-part.count c.add_under.new.count c.add_type.new.self c.args.times _ c.in-Some.uses.now _ _ _ _ ks c.in-Some.part.now
    body turn.0 (turn.2 c.in-Some.part.now) (turn.3 0) (ap type_of c.deref-then-uses-gt0.ensures) c.saturating_mul-then-uses-gt0.ensures
    (length_push c.loop-part.yielded _) c.loop-part.invariant c.in_ok-add_under.ensures

pub add_applied-loop-part-preserved : goal.add_applied-loop-part-preserved
add_applied-loop-part-preserved g t c =
    let b = g.M.Mapping.bound_gives c.args.by.now in
    let f = g.M.Mapping.free_gives c.args.by.now in
    let n = g.M.Mapping.name_gives c.args.by.now in
    let ks = c.args.parts.now in
    let vs = c.add_type.new.self.uses.items in
    let first : iter_rest (zip_first c.into_iter-part-iterator.result) ≡ ks = cc in
    let second : iter_rest (zip_second c.into_iter-part-iterator.result) ≡ vs = cc in
    let turn = zip_turn ks vs c.loop-part.yielded c.into_iter-part-iterator.result c.loop-part.part-iterator c.next.new.self c.next.result first second c.loop-part.yielded_by (c.in-Some.part, c.in-Some.uses) c.in-Some.is c.next.ensures.steps in
    let body = counted _ c.in_ok-body.body c.add_type.new.self _ _ (ap type_of c.deref.ensures) c.in_ok-body.ensures.0 c.in_ok-body.ensures.1 c.add_type.ensures in
    let none : c.in-Some.uses.now ≡ 0 = omega arith in
    turn-nodes b f n c.args.count.now c.loop-part.count c.loop-part.count c.add_type.new.self c.args.times _ c.in-Some.uses.now _ _ _ _ ks c.in-Some.part.now
    body turn.0 (turn.2 c.in-Some.part.now) (turn.3 0) refl refl
    (length_push c.loop-part.yielded _) c.loop-part.invariant (unused-nodes c.loop-part.count c.args.times c.in-Some.uses.now _ none)

pub add_applied-returns : goal.add_applied-returns
add_applied-returns g t c =
    let b = g.M.Mapping.bound_gives c.args.by.now in
    let f = g.M.Mapping.free_gives c.args.by.now in
    let n = g.M.Mapping.name_gives c.args.by.now in
    let ks = c.args.parts.now in
    let vs = c.add_type.new.self.uses.items in
    let first : iter_rest (zip_first c.into_iter-part-iterator.result) ≡ ks = cc in
    let second : iter_rest (zip_second c.into_iter-part-iterator.result) ≡ vs = cc in
    let end = zip_end ks vs c.loop-part.yielded c.into_iter-part-iterator.result c.loop-part.part-iterator c.next.new.self c.next.result first second c.loop-part.yielded_by c.in-None.is c.next.ensures.steps in
    let body = counted (length ks) c.in_ok-body.body c.add_type.new.self _ _ (ap type_of c.deref.ensures) c.in_ok-body.ensures.0 c.in_ok-body.ensures.1 c.add_type.ensures in
    end-nodes b f n c.args.count.now c.loop-part.count c.args.times (length c.loop-part.yielded) _ ks
    (omega (arith, end, body.variables, c.add_type.new.self.uses.ok.0)) c.loop-part.invariant
