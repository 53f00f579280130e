use Rattle.std.proofs.Common.{◌≡◌, ap, sym, subst, ◌∙◌, OnOk, take, ◌++◌, ◌∷◌, []}
use Rattle.std.proofs.lemmas.Grind.{take_at_read}
use Rattle.sml_type_maps.specs.Orders.{bound_after, all_bound_after}
use Rattle.sml_objects.specs.Objects.{types_of}
use Rattle.sml_objects.specs.Views.{type_of}
use Rattle.sml_type_maps.specs.Mapped.{seen as parts_of}
use Rattle.sml_type_maps.proofs.Orders.{after-none, after-push, after-bound, after-free, after-row, after-arrow, after-name}
use Rattle.sml_type_maps.proofs.order.+bound.Goals as goal

pub collect_all_bound-loop-part-init : goal.collect_all_bound-loop-part-init
collect_all_bound-loop-part-init t c = sym (after-none c.args.seen.now.keys)

pub collect_all_bound-loop-part-preserved : goal.collect_all_bound-loop-part-preserved
collect_all_bound-loop-part-preserved t c =
    let xs = c.args.parts.now in
    let x = c.part-item.result in
    let i = c.loop-part.part-index in
    let taken = (take_at_read xs i x c.loop-part-test.true).1 ∙ ap (λ y. take i xs ++ (y ∷ [])) (sym c.part-item.is) in
    let seen = c.args.seen.now.keys in
    c.in_ok-collect_bound.ensures
    ∙ (λ i. bound_after (c.loop-part.invariant i) (type_of (c.deref.ensures i)))
    ∙ sym (after-push seen (take i xs) x)
    ∙ ap (λ l. all_bound_after seen (types_of (parts_of l))) (sym taken)

pub collect_bound-returns-in-Free : goal.collect_bound-returns-in-Free
collect_bound-returns-in-Free t c =
    sym (ap (λ u. bound_after c.args.seen.now.keys (type_of u)) c.in-Free.is ∙ after-free c.args.seen.now.keys c.in-Free.field-0)

pub collect_bound-returns-in_ok-insert-in-Bound :
    goal.collect_bound-returns-in_ok-insert-in-Bound
collect_bound-returns-in_ok-insert-in-Bound t c =
    c.in_ok-insert-in-Bound.ensures.keys
    ∙ sym (ap (λ u. bound_after c.args.seen.now.keys (type_of u)) c.in-Bound.is ∙ after-bound c.args.seen.now.keys c.in-Bound.variable)

pub collect_bound-returns-in-Row : goal.collect_bound-returns-in-Row
collect_bound-returns-in-Row t c =
    let seen = c.args.seen.now.keys in
    subst (λ l. OnOk c.collect_all_bound.result (c.collect_all_bound.new.seen.keys ≡ l))
    (ap (λ ts. all_bound_after seen (types_of (parts_of ts))) c.deref.ensures.value
    ∙ sym (ap (λ u. bound_after seen (type_of u)) c.in-Row.is ∙ after-row seen c.in-Row.field-0 c.in-Row.parts))
    c.collect_all_bound.ensures

pub collect_bound-returns-in_ok-collect_bound-in-Arrow :
    goal.collect_bound-returns-in_ok-collect_bound-in-Arrow
collect_bound-returns-in_ok-collect_bound-in-Arrow t c =
    let seen = c.args.seen.now.keys in
    subst (λ l. OnOk c.collect_bound-in-Arrow.result (c.collect_bound-in-Arrow.new.seen.keys ≡ l))
    ((λ i. bound_after ((c.in_ok-collect_bound-in-Arrow.ensures ∙ ap (λ u. bound_after seen (type_of u)) c.deref-in-Arrow.ensures) i) (type_of (c.deref-in-Arrow-2.ensures i)))
    ∙ sym (ap (λ u. bound_after seen (type_of u)) c.in-Arrow.is ∙ after-arrow seen c.in-Arrow.from c.in-Arrow.to))
    c.collect_bound-in-Arrow.ensures

pub collect_bound-returns-in-Name : goal.collect_bound-returns-in-Name
collect_bound-returns-in-Name t c =
    let seen = c.args.seen.now.keys in
    subst (λ l. OnOk c.collect_all_bound-in-Name.result (c.collect_all_bound-in-Name.new.seen.keys ≡ l))
    (ap (λ ts. all_bound_after seen (types_of (parts_of ts))) c.deref-in-Name.ensures.value
    ∙ sym (ap (λ u. bound_after seen (type_of u)) c.in-Name.is ∙ after-name seen c.in-Name.field-0 c.in-Name.parts))
    c.collect_all_bound-in-Name.ensures
