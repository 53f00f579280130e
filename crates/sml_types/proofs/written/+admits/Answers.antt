use Rattle.std.proofs.Common.{suc, ◌&&◌, ◌||◌, Bool, drop, ap, sym, ◌∙◌, add-one}
use Rattle.std.proofs.lemmas.List.{drop_all}
use Rattle.sml_objects.specs.Initial.{attributes_of}
use Rattle.sml_objects.specs.Types.{argument, replace_type}
use Rattle.sml_objects.specs.Objects as O
use Rattle.sml_objects.specs.Views.{name_of, type_of}
use Rattle.sml_type_maps.specs.Functions.{admits_where, all_admit_where, by_attributes}
use Rattle.sml_types.specs.Meant.{all_meant, meant}
use Rattle.sml_types.proofs.Meanings.{map-next, meant-made, meant-applied, meant-side}
use Rattle.sml_types.proofs.Admitting.{admits-arrow, admits-name, admits-replaced, admits-row, all-admit-from, all-admit-none, each-argument, ok-same}
use Rattle.sml_types.proofs.written.+admits.Goals as goal

pub admits-returns-in-Made : goal.admits-returns-in-Made
admits-returns-in-Made t c =
    let w = by_attributes c.args.attributes.now in
    c.admits_equality_under.ensures.given
    ∙ ap (admits_where w) (ap type_of c.deref.ensures ∙ sym (ap meant c.in-Made.is ∙ meant-made c.in-Made.ty))

pub admits-returns-in-Row : goal.admits-returns-in-Row
admits-returns-in-Row t c =
    let w = by_attributes c.args.attributes.now in
    ok-same c.all_admit.result _ _
    (ap (λ l. all_admit_where w (all_meant l)) c.deref-in-Row.ensures.value
    ∙ sym (ap (λ u. admits_where w (meant u)) c.in-Row.is ∙ admits-row w c.in-Row.field-0 c.in-Row.parts)) c.all_admit.ensures

pub admits-returns-in-Arrow : goal.admits-returns-in-Arrow
admits-returns-in-Arrow t c =
    let w = by_attributes c.args.attributes.now in
    sym (ap (λ u. admits_where w (meant u)) c.in-Arrow.is ∙ admits-arrow w c.in-Arrow.field-0 c.in-Arrow.field-1)

pub admits-returns-then-is_reference : goal.admits-returns-then-is_reference
admits-returns-then-is_reference t c =
    let w = by_attributes c.args.attributes.now in
    let equal : Bool = (attributes_of (name_of c.in-Name.name)).equality in
    let all : Bool = all_admit_where w (all_meant c.in-Name.parts.items) in
    ap (λ r. r || (equal && all)) c.if-is_reference.ensures
    ∙ sym (ap (λ u. admits_where w (meant u)) c.in-Name.is ∙ admits-name w c.in-Name.name c.in-Name.parts)

pub admits-returns-then-not-has_equality : goal.admits-returns-then-not-has_equality
admits-returns-then-not-has_equality t c =
    let w = by_attributes c.args.attributes.now in
    let all : Bool = all_admit_where w (all_meant c.in-Name.parts.items) in
    (λ i. c.if-is_reference.ensures i || (c.if-not-has_equality.ensures i && all))
    ∙ sym (ap (λ u. admits_where w (meant u)) c.in-Name.is ∙ admits-name w c.in-Name.name c.in-Name.parts)

pub admits-returns-else-not-has_equality : goal.admits-returns-else-not-has_equality
admits-returns-else-not-has_equality t c =
    let w = by_attributes c.args.attributes.now in
    let all : Bool = all_admit_where w (all_meant c.in-Name.parts.items) in
    ok-same c.all_admit-in-Name.result _ _
    (ap (λ l. all_admit_where w (all_meant l)) c.deref-in-Name.ensures.value
    ∙ (λ i. c.if-is_reference.ensures i || (c.if-not-has_equality.ensures i && all))
    ∙ sym (ap (λ u. admits_where w (meant u)) c.in-Name.is ∙ admits-name w c.in-Name.name c.in-Name.parts)) c.all_admit-in-Name.ensures

pub admits-returns-in_ok-attributes-in-Applied : goal.admits-returns-in_ok-attributes-in-Applied
admits-returns-in_ok-attributes-in-Applied t c =
    let w = by_attributes c.args.attributes.now in
    let own = by_attributes c.in_ok-attributes-in-Applied.attributes.items in
    let args = c.deref-in-Applied.result.now in
    let body = type_of c.in-Applied.function.value.body.value in
    c.admits_equality_under-in-Applied.ensures.given
    ∙ ap (λ qs. admits_where (by_attributes qs) (type_of c.deref-in-Applied-3.result.now)) c.deref-in-Applied-4.ensures.value
    ∙ ap (λ u. admits_where own (type_of u)) c.deref-in-Applied-3.ensures
    ∙ ap (λ s. admits_where own (type_of s.body.value)) c.deref-in-Applied-2.ensures
    ∙ admits-replaced w own (argument (all_meant args)) c.in_ok-attributes-in-Applied.ensures body
    ∙ ap (λ l. admits_where w (replace_type (argument (all_meant l)) O.free body)) c.deref-in-Applied.ensures.value
    ∙ sym (ap (λ u. admits_where w (meant u)) c.in-Applied.is ∙ ap (admits_where w) (meant-applied c.in-Applied.function c.in-Applied.arguments))

pub admits-returns-in_ok-attributes-in-Side : goal.admits-returns-in_ok-attributes-in-Side
admits-returns-in_ok-attributes-in-Side t c =
    let w = by_attributes c.args.attributes.now in
    let own = by_attributes c.in_ok-attributes-in-Side.attributes.items in
    let args = c.deref-in-Side.result.now in
    let side = meant c.in-Side.side.value in
    ok-same c.admits.result _ _
    (ap (λ qs. admits_where (by_attributes qs) (meant c.deref-in-Side-2.result.now)) c.deref-in-Side-3.ensures.value
    ∙ ap (λ u. admits_where own (meant u)) c.deref-in-Side-2.ensures
    ∙ admits-replaced w own (argument (all_meant args)) c.in_ok-attributes-in-Side.ensures side
    ∙ ap (λ l. admits_where w (replace_type (argument (all_meant l)) O.free side)) c.deref-in-Side.ensures.value
    ∙ sym (ap (λ u. admits_where w (meant u)) c.in-Side.is ∙ ap (admits_where w) (meant-side c.in-Side.side c.in-Side.arguments))) c.admits.ensures

pub all_admit-returns-then-not-branch : goal.all_admit-returns-then-not-branch
all_admit-returns-then-not-branch t c =
    let w = by_attributes c.args.attributes.now in
    let xs = c.args.parts.now in
    let i = c.loop-part.part-index in
    let rest : Bool = all_admit_where w (all_meant (drop (suc i) xs)) in
    sym (c.loop-part.invariant ∙ all-admit-from w xs i c.part-item.result c.loop-part-test.true c.part-item.is
    ∙ ap (λ b. b && rest) (sym (sym c.if-not-branch.true ∙ c.in_ok-admits.ensures ∙ ap (λ u. admits_where w (meant u)) c.deref.ensures)))

pub all_admit-loop-part-preserved : goal.all_admit-loop-part-preserved
all_admit-loop-part-preserved t c =
    let w = by_attributes c.args.attributes.now in
    let xs = c.args.parts.now in
    let i = c.loop-part.part-index in
    let rest : Bool = all_admit_where w (all_meant (drop (suc i) xs)) in
    c.loop-part.invariant ∙ all-admit-from w xs i c.part-item.result c.loop-part-test.true c.part-item.is
    ∙ ap (λ b. b && rest) (sym (sym c.if-not-branch.false ∙ c.in_ok-admits.ensures ∙ ap (λ u. admits_where w (meant u)) c.deref.ensures))
    ∙ ap (λ k. all_admit_where w (all_meant (drop k xs))) (sym (add-one i))

pub all_admit-returns : goal.all_admit-returns
all_admit-returns t c =
    let w = by_attributes c.args.attributes.now in
    sym (c.loop-part.invariant ∙ ap (λ l. all_admit_where w (all_meant l)) (drop_all c.loop-part.part-index c.args.parts.now c.loop-part-test.false) ∙ all-admit-none w)

pub each_admits-loop-part-preserved : goal.each_admits-loop-part-preserved
each_admits-loop-part-preserved t c =
    let w = by_attributes c.args.attributes.now in
    map-next (λ v. admits_where w (meant v.value)) c.loop-part.all.items _ c.in_ok-admits.field-0 c.args.parts.now c.part-item.result c.loop-part.part-index
    c.in_ok-push.ensures.items c.loop-part-test.true c.part-item.is
    (c.in_ok-admits.ensures ∙ ap (λ u. admits_where w (meant u)) c.deref.ensures) c.loop-part.invariant

pub each_admits-returns : goal.each_admits-returns
each_admits-returns t c =
    each-argument c.args.attributes.now _ c.loop-part.all.items c.after.result.now c.args.parts.now c.loop-part.part-index c.loop-part.invariant c.loop-part-test.false
    c.in_ok-extend_from_slice.ensures.items c.after.ensures
