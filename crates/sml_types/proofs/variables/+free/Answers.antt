use Rattle.std.proofs.Common.{◌≡◌, ap, sym, subst, ◌∙◌, OnOk, take, ◌++◌, ◌∷◌, []}
use Rattle.std.proofs.lemmas.Grind.{take_at_read}
use Rattle.sml_objects.specs.Types.{variables_after, variables_after_all}
use Rattle.sml_objects.specs.Objects.{types_of}
use Rattle.sml_objects.specs.Views.{type_of}
use Rattle.sml_objects.proofs.TypeViews.{parts_of}
use Rattle.sml_objects.proofs.Closings.{variables-none, variables-push, variables-bound, variables-free, variables-row, variables-arrow, variables-name}
use Rattle.sml_types.proofs.variables.+free.Goals as goal

pub collect_all_free-loop-part-init : goal.collect_all_free-loop-part-init
collect_all_free-loop-part-init t c = sym (variables-none c.args.seen.now.keys)

pub collect_all_free-loop-part-preserved : goal.collect_all_free-loop-part-preserved
collect_all_free-loop-part-preserved t c =
    let xs = c.args.parts.now in
    let x = c.part-item.result in
    let i = c.loop-part.part-index in
    let taken = (take_at_read xs i x c.loop-part-test.true).1 ∙ ap (λ y. take i xs ++ (y ∷ [])) (sym c.part-item.is) in
    let seen = c.args.seen.now.keys in
    c.in_ok-collect_free.ensures
    ∙ (λ i. variables_after (c.loop-part.invariant i) (type_of (c.deref.ensures i)))
    ∙ sym (variables-push seen (take i xs) x)
    ∙ ap (λ l. variables_after_all seen (types_of (parts_of l))) (sym taken)

pub collect_free-returns-in-Bound : goal.collect_free-returns-in-Bound
collect_free-returns-in-Bound t c =
    sym (ap (λ u. variables_after c.args.seen.now.keys (type_of u)) c.in-Bound.is ∙ variables-bound c.args.seen.now.keys c.in-Bound.field-0)

pub collect_free-returns-in_ok-insert-in-Free :
    goal.collect_free-returns-in_ok-insert-in-Free
collect_free-returns-in_ok-insert-in-Free t c =
    c.in_ok-insert-in-Free.ensures.keys
    ∙ sym (ap (λ u. variables_after c.args.seen.now.keys (type_of u)) c.in-Free.is ∙ variables-free c.args.seen.now.keys c.in-Free.variable)

pub collect_free-returns-in-Row : goal.collect_free-returns-in-Row
collect_free-returns-in-Row t c =
    let seen = c.args.seen.now.keys in
    subst (λ l. OnOk c.collect_all_free.result (c.collect_all_free.new.seen.keys ≡ l))
    (ap (λ ts. variables_after_all seen (types_of (parts_of ts))) c.deref.ensures.value
    ∙ sym (ap (λ u. variables_after seen (type_of u)) c.in-Row.is ∙ variables-row seen c.in-Row.field-0 c.in-Row.parts))
    c.collect_all_free.ensures

pub collect_free-returns-in_ok-collect_free-in-Arrow :
    goal.collect_free-returns-in_ok-collect_free-in-Arrow
collect_free-returns-in_ok-collect_free-in-Arrow t c =
    let seen = c.args.seen.now.keys in
    subst (λ l. OnOk c.collect_free-in-Arrow.result (c.collect_free-in-Arrow.new.seen.keys ≡ l))
    ((λ i. variables_after ((c.in_ok-collect_free-in-Arrow.ensures ∙ ap (λ u. variables_after seen (type_of u)) c.deref-in-Arrow.ensures) i) (type_of (c.deref-in-Arrow-2.ensures i)))
    ∙ sym (ap (λ u. variables_after seen (type_of u)) c.in-Arrow.is ∙ variables-arrow seen c.in-Arrow.from c.in-Arrow.to))
    c.collect_free-in-Arrow.ensures

pub collect_free-returns-in-Name : goal.collect_free-returns-in-Name
collect_free-returns-in-Name t c =
    let seen = c.args.seen.now.keys in
    subst (λ l. OnOk c.collect_all_free-in-Name.result (c.collect_all_free-in-Name.new.seen.keys ≡ l))
    (ap (λ ts. variables_after_all seen (types_of (parts_of ts))) c.deref-in-Name.ensures.value
    ∙ sym (ap (λ u. variables_after seen (type_of u)) c.in-Name.is ∙ variables-name seen c.in-Name.field-0 c.in-Name.parts))
    c.collect_all_free-in-Name.ensures
