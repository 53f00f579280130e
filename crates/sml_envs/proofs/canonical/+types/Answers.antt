use Rattle.std.proofs.Common.{◌≡◌, ap, sym, subst, ◌∙◌, OnOk, map, filter, take, ◌++◌, ◌∷◌, []}
use Rattle.std.proofs.lemmas.Grind.{take_at_read}
use Rattle.sml_objects.specs.Appearance.{firsts_after, appear_type, appear_types}
use Rattle.sml_objects.specs.Canonical.{is_new}
use Rattle.sml_objects.specs.Initial.{naming}
use Rattle.sml_objects.specs.Objects.{types_of}
use Rattle.sml_objects.specs.Views.{maker_of, type_of, name_of}
use Rattle.sml_objects.proofs.Appearances.{appear-bound, appear-free, appear-row, appear-arrow, appear-name, types-push, none}
use Rattle.sml_objects.proofs.TypeViews.{parts_of}
use Rattle.sml_envs.proofs.Appearances.{next, no-more}
use Rattle.sml_envs.proofs.canonical.+types.Goals as goal

pub add_type-returns-in-Bound : goal.add_type-returns-in-Bound
add_type-returns-in-Bound t c =
    no-more (is_new (maker_of c.args.made.unit) c.args.made.first) (map name_of c.args.seen.now.keys) (appear_type (type_of c.args.ty.now))
    (ap (λ u. appear_type (type_of u)) c.in-Bound.is ∙ appear-bound c.in-Bound.field-0)

pub add_type-returns-in-Free : goal.add_type-returns-in-Free
add_type-returns-in-Free t c =
    no-more (is_new (maker_of c.args.made.unit) c.args.made.first) (map name_of c.args.seen.now.keys) (appear_type (type_of c.args.ty.now))
    (ap (λ u. appear_type (type_of u)) c.in-Free.is ∙ appear-free c.in-Free.field-0)

pub add_type-returns-in-Row : goal.add_type-returns-in-Row
add_type-returns-in-Row t c =
    let p = is_new (maker_of c.args.made.unit) c.args.made.first in
    let s = map name_of c.args.seen.now.keys in
    subst (λ l. OnOk c.add_types.result (map name_of c.add_types.new.seen.keys ≡ firsts_after naming s (filter p l)))
    (ap (λ ts. appear_types (types_of (parts_of ts))) c.deref.ensures.value
    ∙ sym (ap (λ u. appear_type (type_of u)) c.in-Row.is ∙ appear-row c.in-Row.field-0 c.in-Row.parts))
    c.add_types.ensures

pub add_type-returns-in_ok-add_type-in-Arrow : goal.add_type-returns-in_ok-add_type-in-Arrow
add_type-returns-in_ok-add_type-in-Arrow t c =
    subst (λ l. OnOk c.add_type-in-Arrow.result (map name_of c.add_type-in-Arrow.new.seen.keys ≡ l))
    (next (is_new (maker_of c.args.made.unit) c.args.made.first) (map name_of c.args.seen.now.keys) _ (appear_type (type_of c.deref-in-Arrow.result.now)) (appear_type (type_of c.deref-in-Arrow-2.result.now))
    (appear_type (type_of c.args.ty.now)) c.in_ok-add_type-in-Arrow.ensures
    (ap (λ u. appear_type (type_of u)) c.in-Arrow.is
    ∙ appear-arrow c.in-Arrow.from c.in-Arrow.to
    ∙ (λ i. appear_type (type_of (sym c.deref-in-Arrow.ensures i)) ++ appear_type (type_of (sym c.deref-in-Arrow-2.ensures i)))))
    c.add_type-in-Arrow.ensures

pub add_type-returns-in_ok-add_types-in-Name : goal.add_type-returns-in_ok-add_types-in-Name
add_type-returns-in_ok-add_types-in-Name t c =
    subst (λ l. OnOk c.add_name.result (map name_of c.add_name.new.seen.keys ≡ l))
    (next (is_new (maker_of c.args.made.unit) c.args.made.first) (map name_of c.args.seen.now.keys) _ (appear_types (types_of (parts_of c.deref-in-Name.result.now))) (name_of c.in-Name.name ∷ []) (appear_type (type_of c.args.ty.now))
    c.in_ok-add_types-in-Name.ensures
    (ap (λ u. appear_type (type_of u)) c.in-Name.is
    ∙ appear-name c.in-Name.name c.in-Name.parts
    ∙ ap (λ ts. appear_types (types_of (parts_of ts)) ++ (name_of c.in-Name.name ∷ [])) (sym c.deref-in-Name.ensures.value)))
    c.add_name.ensures

pub add_types-loop-ty-init : goal.add_types-loop-ty-init
add_types-loop-ty-init t c = no-more (is_new (maker_of c.args.made.unit) c.args.made.first) (map name_of c.args.seen.now.keys) _ none

pub add_types-loop-ty-preserved : goal.add_types-loop-ty-preserved
add_types-loop-ty-preserved t c =
    let xs = c.args.types.now in
    let x = c.ty-item.result in
    let i = c.loop-ty.ty-index in
    let taken = (take_at_read xs i x c.loop-ty-test.true).1 ∙ ap (λ y. take i xs ++ (y ∷ [])) (sym c.ty-item.is) in
    c.in_ok-add_type.ensures
    ∙ next (is_new (maker_of c.args.made.unit) c.args.made.first) (map name_of c.args.seen.now.keys) _ (appear_types (types_of (parts_of (take i xs)))) (appear_type (type_of c.deref.result.now)) _
    c.loop-ty.invariant
    (ap (λ l. appear_types (types_of (parts_of l))) taken
    ∙ types-push (take i xs) x
    ∙ ap (λ u. appear_types (types_of (parts_of (take i xs))) ++ appear_type (type_of u)) (sym c.deref.ensures))
