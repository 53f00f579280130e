use Rattle.std.proofs.Common.{ap, sym, ◌∙◌, rules}
use Rattle.sml_objects.specs.Views.{type_of, label_list}
use Rattle.sml_objects.proofs.TypeViews.{parts_of}
use Rattle.sml_objects.proofs.NameTests.{eq-same}
use Rattle.sml_objects.proofs.SameTypes.{same-row, parts-row, same-name, parts-name, part-at}
use Rattle.sml_objects.proofs.comparisons.+same_type.Goals as goal

pub same_type-returns-then-are_same-clause-yes : goal.same_type-returns-then-are_same-clause-yes
same_type-returns-then-are_same-clause-yes t c = λ h.
    ap type_of c.in-Row-Row.is-0
    ∙ same-row c.in-Row-Row.labels c.in-Row-Row.other_labels c.in-Row-Row.parts c.in-Row-Row.others
    (ap label_list (sym c.deref.ensures) ∙ c.if-are_same.ensures.yes (search rules) ∙ ap label_list c.deref-in-Row-Row.ensures)
    (ap parts_of (sym c.deref-then-are_same.ensures.value) ∙ c.same_types.ensures.yes h ∙ ap parts_of c.deref-then-are_same-2.ensures.value)
    ∙ ap type_of (sym c.in-Row-Row.is-1)

pub same_type-returns-then-are_same-clause-no : goal.same_type-returns-then-are_same-clause-no
same_type-returns-then-are_same-clause-no t c = λ h e.
    c.same_types.ensures.no h
    (ap parts_of c.deref-then-are_same.ensures.value
    ∙ parts-row c.in-Row-Row.labels c.in-Row-Row.other_labels c.in-Row-Row.parts c.in-Row-Row.others (ap type_of (sym c.in-Row-Row.is-0) ∙ e ∙ ap type_of c.in-Row-Row.is-1)
    ∙ ap parts_of (sym c.deref-then-are_same-2.ensures.value))

pub same_type-returns-then-eq-clause-yes : goal.same_type-returns-then-eq-clause-yes
same_type-returns-then-eq-clause-yes t c = λ h.
    ap type_of c.in-Name-Name.is-0
    ∙ same-name c.in-Name-Name.name c.in-Name-Name.other_name c.in-Name-Name.parts c.in-Name-Name.others
    (eq-same c.in-Name-Name.name c.in-Name-Name.other_name (search rules))
    (ap parts_of (sym c.deref-then-eq.ensures.value) ∙ c.same_types-then-eq.ensures.yes h ∙ ap parts_of c.deref-then-eq-2.ensures.value)
    ∙ ap type_of (sym c.in-Name-Name.is-1)

pub same_type-returns-then-eq-clause-no : goal.same_type-returns-then-eq-clause-no
same_type-returns-then-eq-clause-no t c = λ h e.
    c.same_types-then-eq.ensures.no h
    (ap parts_of c.deref-then-eq.ensures.value
    ∙ parts-name c.in-Name-Name.name c.in-Name-Name.other_name c.in-Name-Name.parts c.in-Name-Name.others (ap type_of (sym c.in-Name-Name.is-0) ∙ e ∙ ap type_of c.in-Name-Name.is-1)
    ∙ ap parts_of (sym c.deref-then-eq-2.ensures.value))

pub same_types-returns-then-not-same_type-clause-no :
    goal.same_types-returns-then-not-same_type-clause-no
same_types-returns-then-not-same_type-clause-no t c = λ h e.
    c.if-not-same_type.ensures.no (search rules)
    (ap type_of c.deref.ensures
    ∙ part-at c.loop-index.index c.args.ones.now c.args.others.now c.index-ones-index.result c.index-others-index.result c.index-ones-index.is c.index-others-index.is (search rules) (search rules) e
    ∙ ap type_of (sym c.deref-in-loop-index.ensures))
