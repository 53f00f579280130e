use Rattle.std.proofs.Common.{◌≡◌, ◌∷◌, [], inr, inl, IfOk, ap, sym, subst, ◌∙◌, length, arith}
use Rattle.std.proofs.lemmas.List.{length_push, map-append, take_all}
use Rattle.std.proofs.lemmas.Slice.Zip.{zip_turn, zip_end}
use Rattle.std.specs.Iterator.Adapters.{zip_first, zip_second}
use Rattle.std.specs.Slice.Iter.{iter_rest}
use Rattle.sml_objects.specs.Objects as O
use Rattle.sml_objects.specs.Objects.{types_of}
use Rattle.sml_objects.specs.Types.{applied, argument, replace_type}
use Rattle.sml_objects.specs.Views.{label_list, name_of, row_of, scheme_of, type_of}
use Rattle.sml_objects.specs.declared.objects.MlType.TheViews as T
use Rattle.sml_objects.proofs.TypeCopies.{shared-type}
use Rattle.sml_objects.proofs.TypeViews.{parts_of, type_of-row, type_of-name}
use Rattle.sml_type_maps.specs.Counted.{uses_in}
use Rattle.sml_type_maps.proofs.AppliedSizes.{counted}
use Rattle.sml_types.specs.Meant.{all_meant, meant}
use Rattle.sml_types.proofs.Arguments.{alike-all, alike-next, unused}
use Rattle.sml_types.proofs.Meanings.{map-next, meanings, meant-made, meant-row, meant-arrow, meant-name, meant-applied, meant-side, none-alike}
use Rattle.sml_types.proofs.written.+made.Goals as goal

pub made-returns-in_ok-clone-in-Made : goal.made-returns-in_ok-clone-in-Made
made-returns-in_ok-clone-in-Made t c =
    ap type_of c.in_ok-clone-in-Made.ensures.cases ∙ sym (ap meant c.in-Made.is ∙ meant-made c.in-Made.ty)

pub made-returns-in_ok-clone-in-Row : goal.made-returns-in_ok-clone-in-Row
made-returns-in_ok-clone-in-Row t c =
    let ls = c.in_ok-clone-in-Row.field-0 in
    let ts = c.in_ok-parts-in-Row.parts in
    let same : parts_of ts.items ≡ meanings c.in-Row.parts.items = c.in_ok-parts-in-Row.ensures ∙ ap meanings c.deref.ensures.value in
    shared-type c.boxed.result (T.Row ls ts) _
    (type_of-row ls ts
    ∙ (λ i. row_of (ap label_list c.in_ok-clone-in-Row.ensures.cases i) (same i))
    ∙ sym (ap meant c.in-Row.is ∙ meant-row c.in-Row.labels c.in-Row.parts)) c.boxed.ensures

pub made-returns-in_ok-to-in-Arrow : goal.made-returns-in_ok-to-in-Arrow
made-returns-in_ok-to-in-Arrow t c =
    let from = c.in_ok-from-in-Arrow.ensures ∙ ap meant c.deref-in-Arrow.ensures in
    let to = c.in_ok-to-in-Arrow.ensures ∙ ap meant c.deref-in-Arrow-2.ensures in
    subst (λ u. IfOk c.arrow.result (λ t. type_of t.value ≡ u))
    ((λ i. O.arrow_of (from i) (to i)) ∙ sym (ap meant c.in-Arrow.is ∙ meant-arrow c.in-Arrow.from c.in-Arrow.to)) c.arrow.ensures

pub made-returns-in_ok-parts-in-Name : goal.made-returns-in_ok-parts-in-Name
made-returns-in_ok-parts-in-Name t c =
    let n = c.in-Name.name in
    let ts = c.in_ok-parts-in-Name.parts in
    let same : parts_of ts.items ≡ meanings c.in-Name.parts.items = c.in_ok-parts-in-Name.ensures ∙ ap meanings c.deref-in-Name.ensures.value in
    shared-type c.boxed-in-Name.result (T.Name n ts) _
    (type_of-name n ts
    ∙ ap (λ us. O.app (O.name (name_of n)) (types_of us)) same
    ∙ sym (ap meant c.in-Name.is ∙ meant-name n c.in-Name.parts)) c.boxed-in-Name.ensures

pub made-returns-in-Applied : goal.made-returns-in-Applied
made-returns-in-Applied t c =
    let function = ap scheme_of c.deref-in-Applied.ensures in
    let arguments = ap all_meant c.deref-in-Applied-2.ensures.value in
    subst (λ u. IfOk c.made_applied.result (λ t. type_of t.value ≡ u))
    ((λ i. applied (function i) (arguments i)) ∙ sym (ap meant c.in-Applied.is ∙ meant-applied c.in-Applied.function c.in-Applied.arguments)) c.made_applied.ensures

pub made-returns-in_ok-function-in-Side : goal.made-returns-in_ok-function-in-Side
made-returns-in_ok-function-in-Side t c =
    let body = c.in_ok-function-in-Side.ensures ∙ ap meant c.deref-in-Side.ensures in
    let arguments = ap all_meant c.deref-in-Side-2.ensures.value in
    subst (λ u. IfOk c.made_applied-in-Side.result (λ t. type_of t.value ≡ u))
    ((λ i. replace_type (argument (arguments i)) O.free (body i)) ∙ sym (ap meant c.in-Side.is ∙ meant-side c.in-Side.side c.in-Side.arguments)) c.made_applied-in-Side.ensures

pub all_made-loop-part-preserved : goal.all_made-loop-part-preserved
all_made-loop-part-preserved t c =
    let old = c.loop-part.types.items in
    let one = c.in_ok-made.field-0 in
    map-next (λ w. meant w.value) (parts_of old) _ (type_of one.value) c.args.parts.now c.part-item.result c.loop-part.part-index
    (ap parts_of c.in_ok-push.ensures.items ∙ map-append (λ t. type_of t.value) old (one ∷ [])) c.loop-part-test.true c.part-item.is
    (c.in_ok-made.ensures ∙ ap meant c.deref.ensures) c.loop-part.invariant

pub all_made-returns : goal.all_made-returns
all_made-returns t c =
    c.loop-part.invariant ∙ ap meanings (take_all c.loop-part.part-index c.args.parts.now c.loop-part-test.false)

pub made_applied-returns-then-is_large : goal.made_applied-returns-then-is_large
made_applied-returns-then-is_large t c =
    let all : parts_of c.deref-then-is_large.result.now ≡ meanings c.args.arguments.now = ap parts_of c.deref-then-is_large.ensures.value ∙ c.in_ok-types.ensures in
    subst (λ us. IfOk c.apply.result (λ u. type_of u.value ≡ applied (scheme_of c.args.function.now) (types_of us))) all c.apply.ensures

pub made_applied-loop-argument-init : goal.made_applied-loop-argument-init
made_applied-loop-argument-init t c = none-alike (uses_in (type_of c.args.function.now.body.value)) _ (ap parts_of c.new-types.ensures.items)

pub made_applied-loop-argument-preserved-in_ok-push : goal.made_applied-loop-argument-preserved-in_ok-push
made_applied-loop-argument-preserved-in_ok-push t c =
    let ks = c.args.arguments.now in
    let vs = c.add_type.new.self.uses.items in
    let first : iter_rest (zip_first c.into_iter-argument-iterator.result) ≡ ks = cc in
    let second : iter_rest (zip_second c.into_iter-argument-iterator.result) ≡ vs =
    ap (λ s. iter_rest (zip_second s)) c.into_iter-argument-iterator.ensures.into_iter_gives ∙ c.zip-argument-items.ensures.second.0 in
    let turn = zip_turn ks vs c.loop-argument.yielded c.into_iter-argument-iterator.result c.loop-argument.argument-iterator c.next.new.self c.next.result first second c.loop-argument.yielded_by (c.in-Some.argument, c.in-Some.uses) c.in-Some.is c.next.ensures.steps in
    alike-next (uses_in (type_of c.args.function.now.body.value)) c.loop-argument.types.items _ c.in_ok-made.field-0 ks c.in-Some.argument.now (length c.loop-argument.yielded) _
    c.in_ok-push.ensures.items turn.0 (turn.2 c.in-Some.argument.now) (length_push c.loop-argument.yielded _)
    (inr (c.in_ok-made.ensures ∙ ap meant c.deref-then-uses-gt0.ensures)) c.loop-argument.invariant

pub made_applied-loop-argument-preserved : goal.made_applied-loop-argument-preserved
made_applied-loop-argument-preserved t c =
    let ks = c.args.arguments.now in
    let vs = c.add_type.new.self.uses.items in
    let body = type_of c.args.function.now.body.value in
    let first : iter_rest (zip_first c.into_iter-argument-iterator.result) ≡ ks = cc in
    let second : iter_rest (zip_second c.into_iter-argument-iterator.result) ≡ vs =
    ap (λ s. iter_rest (zip_second s)) c.into_iter-argument-iterator.ensures.into_iter_gives ∙ c.zip-argument-items.ensures.second.0 in
    let turn = zip_turn ks vs c.loop-argument.yielded c.into_iter-argument-iterator.result c.loop-argument.argument-iterator c.next.new.self c.next.result first second c.loop-argument.yielded_by (c.in-Some.argument, c.in-Some.uses) c.in-Some.is c.next.ensures.steps in
    let count = counted (length ks) c.in_ok-body.body c.add_type.new.self _ body (ap type_of c.deref.ensures) c.in_ok-body.ensures.0 c.in_ok-body.ensures.1 c.add_type.ensures in
    let none : c.in-Some.uses.now ≡ 0 = omega arith in
    alike-next (uses_in body) c.loop-argument.types.items _ c.in_ok-clone.field-0 ks c.in-Some.argument.now (length c.loop-argument.yielded) _
    c.in_ok-push-2.ensures.items turn.0 (turn.2 c.in-Some.argument.now) (length_push c.loop-argument.yielded _)
    (inl (unused body (length ks) (length c.loop-argument.yielded) c.in-Some.uses.now c.add_type.new.self count (sym c.if-is_large.ensures) turn.0 (turn.3 0) none))
    c.loop-argument.invariant

pub made_applied-returns : goal.made_applied-returns
made_applied-returns t c =
    let ks = c.args.arguments.now in
    let vs = c.add_type.new.self.uses.items in
    let body = type_of c.args.function.now.body.value in
    let first : iter_rest (zip_first c.into_iter-argument-iterator.result) ≡ ks = cc in
    let second : iter_rest (zip_second c.into_iter-argument-iterator.result) ≡ vs =
    ap (λ s. iter_rest (zip_second s)) c.into_iter-argument-iterator.ensures.into_iter_gives ∙ c.zip-argument-items.ensures.second.0 in
    let end = zip_end ks vs c.loop-argument.yielded c.into_iter-argument-iterator.result c.loop-argument.argument-iterator c.next.new.self c.next.result first second c.loop-argument.yielded_by c.in-None.is c.next.ensures.steps in
    let count = counted (length ks) c.in_ok-body.body c.add_type.new.self _ body (ap type_of c.deref.ensures) c.in_ok-body.ensures.0 c.in_ok-body.ensures.1 c.add_type.ensures in
    let same = alike-all body c.loop-argument.types.items ks (length c.loop-argument.yielded)
    (omega (arith, end, count.variables, c.add_type.new.self.uses.ok.0)) c.loop-argument.invariant in
    subst (λ u. IfOk c.apply-2.result (λ t. type_of t.value ≡ u))
    (ap (λ us. applied (scheme_of c.args.function.now) (types_of (parts_of us))) c.deref-2.ensures.value ∙ same) c.apply-2.ensures
