use Rattle.std.proofs.Common.{◌≡◌, ap, sym, subst, ◌∙◌, OnOk, map, take, ◌++◌, ◌∷◌, []}
use Rattle.std.proofs.lemmas.Grind.{take_at_read}
use Rattle.sml_objects.specs.Appearance.{firsts_after, appear_type, appear_types}
use Rattle.sml_objects.specs.Initial.{naming}
use Rattle.sml_objects.specs.Objects.{types_of}
use Rattle.sml_objects.specs.Views.{type_of, name_of}
use Rattle.sml_objects.proofs.TypeViews.{parts_of}
use Rattle.sml_objects.proofs.Appearances.{appear-bound, appear-free, appear-row, appear-arrow, appear-name, types-push, none, collected, inserted-first, unchanged}
use Rattle.sml_objects.proofs.names.+collect.Goals as goal

pub collect_type-returns-in-Bound : goal.collect_type-returns-in-Bound
collect_type-returns-in-Bound t c =
    let s = map name_of c.args.seen.now.keys in
    unchanged s ∙ ap (firsts_after naming s) (sym (ap (λ u. appear_type (type_of u)) c.in-Bound.is ∙ appear-bound c.in-Bound.field-0))

pub collect_type-returns-in-Free : goal.collect_type-returns-in-Free
collect_type-returns-in-Free t c =
    let s = map name_of c.args.seen.now.keys in
    unchanged s ∙ ap (firsts_after naming s) (sym (ap (λ u. appear_type (type_of u)) c.in-Free.is ∙ appear-free c.in-Free.field-0))

pub collect_type-returns-in-Row : goal.collect_type-returns-in-Row
collect_type-returns-in-Row t c =
    let s = map name_of c.args.seen.now.keys in
    subst (λ l. OnOk c.collect_types.result (map name_of c.collect_types.new.seen.keys ≡ firsts_after naming s l))
    (ap (λ ts. appear_types (types_of (parts_of ts))) c.deref.ensures.value
    ∙ sym (ap (λ u. appear_type (type_of u)) c.in-Row.is ∙ appear-row c.in-Row.field-0 c.in-Row.parts))
    c.collect_types.ensures

pub collect_type-returns-in_ok-collect_type-in-Arrow-2 : goal.collect_type-returns-in_ok-collect_type-in-Arrow-2
collect_type-returns-in_ok-collect_type-in-Arrow-2 t c =
    let s = map name_of c.args.seen.now.keys in
    collected s _ _ _ _ (appear_type (type_of c.args.ty.now)) c.in_ok-collect_type-in-Arrow.ensures c.in_ok-collect_type-in-Arrow-2.ensures
    (ap (λ u. appear_type (type_of u)) c.in-Arrow.is
    ∙ appear-arrow c.in-Arrow.from c.in-Arrow.to
    ∙ (λ i. appear_type (type_of (sym c.deref-in-Arrow.ensures i)) ++ appear_type (type_of (sym c.deref-in-Arrow-2.ensures i))))

pub collect_type-returns-in_ok-insert-in-Name : goal.collect_type-returns-in_ok-insert-in-Name
collect_type-returns-in_ok-insert-in-Name t c =
    let s = map name_of c.args.seen.now.keys in
    collected s _ _ _ _ (appear_type (type_of c.args.ty.now)) c.in_ok-collect_types-in-Name.ensures
    (inserted-first c.in-Name.name c.collect_types-in-Name.new.seen.keys c.insert.new.self.keys c.in_ok-insert-in-Name.ensures.keys)
    (ap (λ u. appear_type (type_of u)) c.in-Name.is
    ∙ appear-name c.in-Name.name c.in-Name.parts
    ∙ ap (λ ts. appear_types (types_of (parts_of ts)) ++ (name_of c.in-Name.name ∷ [])) (sym c.deref-in-Name.ensures.value))

pub collect_types-loop-part-init : goal.collect_types-loop-part-init
collect_types-loop-part-init t c =
    let s = map name_of c.args.seen.now.keys in
    unchanged s ∙ ap (firsts_after naming s) (sym none)

pub collect_types-loop-part-preserved : goal.collect_types-loop-part-preserved
collect_types-loop-part-preserved t c =
    let xs = c.args.parts.now in
    let x = c.part-item.result in
    let i = c.loop-part.part-index in
    let taken = (take_at_read xs i x c.loop-part-test.true).1 ∙ ap (λ y. take i xs ++ (y ∷ [])) (sym c.part-item.is) in
    collected (map name_of c.args.seen.now.keys) _ _ _ _ _ c.loop-part.invariant c.in_ok-collect_type.ensures
    (ap (λ l. appear_types (types_of (parts_of l))) taken
    ∙ types-push (take i xs) x
    ∙ ap (λ u. appear_types (types_of (parts_of (take i xs))) ++ appear_type (type_of u)) (sym c.deref.ensures))
