use Rattle.std.proofs.Common.{suc, ◌&&◌, ◌||◌, Bool, drop, ap, sym, ◌∙◌, add-one}
use Rattle.std.proofs.lemmas.List.{drop_all}
use Rattle.sml_objects.specs.Initial.{attributes_of}
use Rattle.sml_objects.specs.Objects.{types_of}
use Rattle.sml_objects.specs.Views.{type_of, name_of}
use Rattle.sml_type_maps.specs.Functions.{admits_where, all_admit_where, by_given}
use Rattle.sml_type_maps.specs.Mapped.{seen}
use Rattle.sml_type_maps.proofs.FunctionViews.{from-part, where-arrow, where-bound, where-free, where-name, where-next, where-none, where-row}
use Rattle.sml_type_maps.proofs.functions.+admits.Goals as goal

pub admits-returns-in-None : goal.admits-returns-in-None
admits-returns-in-None t c =
    let w = by_given c.args.attributes in
    sym (ap (λ u. admits_where w (type_of u)) c.in-Bound.is ∙ where-bound w c.in-Bound.variable ∙ ap (λ o. by_given o c.in-Bound.variable) c.in-None.is)

pub admits-returns-in-Some : goal.admits-returns-in-Some
admits-returns-in-Some t c =
    let w = by_given c.args.attributes in
    sym (ap (λ u. admits_where w (type_of u)) c.in-Bound.is ∙ where-bound w c.in-Bound.variable ∙ ap (λ o. by_given o c.in-Bound.variable) c.in-Some.is ∙ sym c.has_attribute.ensures)

pub admits-returns-in-Free : goal.admits-returns-in-Free
admits-returns-in-Free t c =
    let w = by_given c.args.attributes in
    sym (ap (λ u. admits_where w (type_of u)) c.in-Free.is ∙ where-free w c.in-Free.field-0)

pub admits-returns-in-Row : goal.admits-returns-in-Row
admits-returns-in-Row t c =
    let w = by_given c.args.attributes in
    c.all_admit.ensures
    ∙ ap (λ ts. all_admit_where w (types_of (seen ts))) c.deref.ensures.value
    ∙ sym (ap (λ u. admits_where w (type_of u)) c.in-Row.is ∙ where-row w c.in-Row.field-0 c.in-Row.parts)

pub admits-returns-in-Arrow : goal.admits-returns-in-Arrow
admits-returns-in-Arrow t c =
    let w = by_given c.args.attributes in
    sym (ap (λ u. admits_where w (type_of u)) c.in-Arrow.is ∙ where-arrow w c.in-Arrow.field-0 c.in-Arrow.field-1)

pub admits-returns-then-is_reference : goal.admits-returns-then-is_reference
admits-returns-then-is_reference t c =
    let w = by_given c.args.attributes in
    let equal : Bool = (attributes_of (name_of c.in-Name.name)).equality in
    let all : Bool = all_admit_where w (types_of (seen c.in-Name.parts.items)) in
    c.if-is_reference.true
    ∙ ap (λ r. r || (equal && all)) c.if-is_reference.ensures
    ∙ sym (ap (λ u. admits_where w (type_of u)) c.in-Name.is ∙ where-name w c.in-Name.name c.in-Name.parts)

pub admits-returns-then-has_equality : goal.admits-returns-then-has_equality
admits-returns-then-has_equality t c =
    let w = by_given c.args.attributes in
    let all : Bool = all_admit_where w (types_of (seen c.in-Name.parts.items)) in
    c.all_admit-then-has_equality.ensures
    ∙ ap (λ ts. all_admit_where w (types_of (seen ts))) c.deref-then-has_equality.ensures.value
    ∙ (λ i. c.if-is_reference.ensures i || (c.if-has_equality.ensures i && all))
    ∙ sym (ap (λ u. admits_where w (type_of u)) c.in-Name.is ∙ where-name w c.in-Name.name c.in-Name.parts)

pub admits-returns-else-has_equality : goal.admits-returns-else-has_equality
admits-returns-else-has_equality t c =
    let w = by_given c.args.attributes in
    let all : Bool = all_admit_where w (types_of (seen c.in-Name.parts.items)) in
    c.if-has_equality.false
    ∙ (λ i. c.if-is_reference.ensures i || (c.if-has_equality.ensures i && all))
    ∙ sym (ap (λ u. admits_where w (type_of u)) c.in-Name.is ∙ where-name w c.in-Name.name c.in-Name.parts)

pub all_admit-returns-then-not-admits : goal.all_admit-returns-then-not-admits
all_admit-returns-then-not-admits t c =
    let w = by_given c.args.attributes in
    let xs = c.args.parts.now in
    let i = c.loop-part.part-index in
    let rest : Bool = all_admit_where w (types_of (seen (drop (suc i) xs))) in
    sym (c.loop-part.invariant ∙ ap (λ l. all_admit_where w (types_of (seen l))) (from-part xs i c.part-item.result c.loop-part-test.true c.part-item.is)
    ∙ where-next w c.part-item.result (drop (suc i) xs)
    ∙ ap (λ b. b && rest) (sym (c.if-not-admits.ensures ∙ ap (λ u. admits_where w (type_of u)) c.deref.ensures)))

pub all_admit-loop-part-preserved : goal.all_admit-loop-part-preserved
all_admit-loop-part-preserved t c =
    let w = by_given c.args.attributes in
    let xs = c.args.parts.now in
    let i = c.loop-part.part-index in
    let rest : Bool = all_admit_where w (types_of (seen (drop (suc i) xs))) in
    c.loop-part.invariant ∙ ap (λ l. all_admit_where w (types_of (seen l))) (from-part xs i c.part-item.result c.loop-part-test.true c.part-item.is)
    ∙ where-next w c.part-item.result (drop (suc i) xs)
    ∙ ap (λ b. b && rest) (sym (c.if-not-admits.ensures ∙ ap (λ u. admits_where w (type_of u)) c.deref.ensures))
    ∙ ap (λ k. all_admit_where w (types_of (seen (drop k xs)))) (sym (add-one i))

pub all_admit-returns : goal.all_admit-returns
all_admit-returns t c =
    let w = by_given c.args.attributes in
    sym (c.loop-part.invariant ∙ ap (λ l. all_admit_where w (types_of (seen l))) (drop_all c.loop-part.part-index c.args.parts.now c.loop-part-test.false) ∙ where-none w)
