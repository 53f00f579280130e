use Rattle.std.proofs.Common.{ap, ◌∙◌, sym, take, ◌++◌, ◌∷◌, []}
use Rattle.std.proofs.lemmas.Grind.{take_at_read}
use Rattle.sml_objects.specs.Objects as O
use Rattle.sml_objects.specs.Views.{type_of, label_list, name_of}
use Rattle.sml_objects.proofs.TypeViews.{type_of-free, type_of-row, type_of-arrow, type_of-name}
use Rattle.sml_type_maps.specs.Mapped.{seen}
use Rattle.sml_type_maps.proofs.Counts.{free-added, parts-added, arrow-added, none-added, push-added}
use Rattle.sml_type_maps.proofs.sizes.Count.+count.Goals as goal

pub add_type-returns-in-Free : goal.add_type-returns-in-Free
add_type-returns-in-Free t c =
    free-added c.args.self.now c.add.new.self c.args.times c.in-Free.field-0 _ (ap type_of c.in-Free.is ∙ type_of-free c.in-Free.field-0)
    c.add.ensures.nodes c.add.ensures.uses

pub add_type-returns-in-Row : goal.add_type-returns-in-Row
add_type-returns-in-Row t c =
    parts-added c.args.self.now c.add_types.new.self c.args.times (O.row (label_list c.in-Row.field-0.value)) (seen c.in-Row.parts.items) (seen c.deref.result.now) _
    (ap seen c.deref.ensures.value) (ap type_of c.in-Row.is ∙ type_of-row c.in-Row.field-0 c.in-Row.parts) c.add_types.ensures

pub add_type-returns-in-Arrow : goal.add_type-returns-in-Arrow
add_type-returns-in-Arrow t c =
    arrow-added c.args.self.now c.add-in-Arrow.new.self c.add_type.new.self c.add_type-in-Arrow.new.self c.args.times _ _ _
    (ap type_of c.in-Arrow.is ∙ type_of-arrow c.in-Arrow.from c.in-Arrow.to
    ∙ (λ i. O.arrow_of (ap type_of (sym c.deref-in-Arrow.ensures) i) (ap type_of (sym c.deref-in-Arrow-2.ensures) i)))
    c.add-in-Arrow.ensures.nodes c.add-in-Arrow.ensures.uses c.add_type.ensures c.add_type-in-Arrow.ensures

pub add_type-returns-in-Name : goal.add_type-returns-in-Name
add_type-returns-in-Name t c =
    parts-added c.args.self.now c.add_types-in-Name.new.self c.args.times (O.name (name_of c.in-Name.field-0)) (seen c.in-Name.parts.items) (seen c.deref-in-Name.result.now) _
    (ap seen c.deref-in-Name.ensures.value) (ap type_of c.in-Name.is ∙ type_of-name c.in-Name.field-0 c.in-Name.parts) c.add_types-in-Name.ensures

pub add_types-loop-part-init : goal.add_types-loop-part-init
add_types-loop-part-init t c = none-added c.args.self.now c.add.new.self c.args.times c.add.ensures.nodes c.add.ensures.uses

pub add_types-loop-part-preserved : goal.add_types-loop-part-preserved
add_types-loop-part-preserved t c =
    let xs = c.args.parts.now in
    let x = c.part-item.result in
    let i = c.loop-part.part-index in
    let taken = (take_at_read xs i x c.loop-part-test.true).1 ∙ ap (λ y. take i xs ++ (y ∷ [])) (sym c.part-item.is) in
    push-added c.args.self.now c.loop-part.self c.add_type.new.self c.args.times (take i xs) _ x _ taken (ap type_of c.deref.ensures)
    c.loop-part.invariant c.add_type.ensures
