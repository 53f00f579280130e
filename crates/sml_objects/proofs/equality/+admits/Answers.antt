use Rattle.std.proofs.Common.{◌≡◌, ap, sym, ◌∙◌, suc, List, Global, Bool, ◌&&◌, ◌||◌, take, drop, ◌++◌, ◌∷◌, []}
use Rattle.std.proofs.lemmas.Grind.{take_at_read}
use Rattle.std.proofs.lemmas.List.{take-append-drop}
use Rattle.std.proofs.Math.Seq.{drop-cons}
use Rattle.std.specs.declared.rc.Rc.{Rc}
use Rattle.sml_objects.specs.declared.objects.MlType.{MlType}
use Rattle.sml_objects.specs.Equality.{admits, all_admit}
use Rattle.sml_objects.specs.Initial.{naming, attributes_of}
use Rattle.sml_objects.specs.Objects.{types_of}
use Rattle.sml_objects.specs.Views.{type_of, name_of}
use Rattle.sml_objects.proofs.TypeViews.{parts_of}
use Rattle.sml_objects.proofs.EqualityViews.{admits-bound, admits-free, admits-row, admits-arrow, admits-name, all_admit-none, all_admit-after}
use Rattle.sml_objects.proofs.equality.+admits.Goals as goal

pub admits_equality-returns-in-Bound : goal.admits_equality-returns-in-Bound
admits_equality-returns-in-Bound t c = sym (ap (λ u. admits naming (type_of u)) c.in-Bound.is ∙ admits-bound c.in-Bound.field-0)

pub admits_equality-returns-in-Free : goal.admits_equality-returns-in-Free
admits_equality-returns-in-Free t c = sym (ap (λ u. admits naming (type_of u)) c.in-Free.is ∙ admits-free c.in-Free.field-0)

pub admits_equality-returns-in-Row : goal.admits_equality-returns-in-Row
admits_equality-returns-in-Row t c =
    c.all_admit_equality.ensures
    ∙ ap (λ ts. all_admit naming (types_of (parts_of ts))) c.deref.ensures.value
    ∙ sym (ap (λ u. admits naming (type_of u)) c.in-Row.is ∙ admits-row c.in-Row.field-0 c.in-Row.parts)

pub admits_equality-returns-in-Arrow : goal.admits_equality-returns-in-Arrow
admits_equality-returns-in-Arrow t c =
    sym (ap (λ u. admits naming (type_of u)) c.in-Arrow.is ∙ admits-arrow c.in-Arrow.field-0 c.in-Arrow.field-1)

pub admits_equality-returns-then-is_reference : goal.admits_equality-returns-then-is_reference
admits_equality-returns-then-is_reference t c =
    let equal : Bool = (attributes_of (name_of c.in-Name.name)).equality in
    let all : Bool = all_admit naming (types_of (parts_of c.in-Name.parts.items)) in
    c.if-is_reference.true
    ∙ ap (λ r. r || (equal && all)) c.if-is_reference.ensures
    ∙ sym (ap (λ u. admits naming (type_of u)) c.in-Name.is ∙ admits-name c.in-Name.name c.in-Name.parts)

pub admits_equality-returns-then-has_equality : goal.admits_equality-returns-then-has_equality
admits_equality-returns-then-has_equality t c =
    let all : Bool = all_admit naming (types_of (parts_of c.in-Name.parts.items)) in
    c.all_admit_equality-then-has_equality.ensures
    ∙ ap (λ ts. all_admit naming (types_of (parts_of ts))) c.deref-then-has_equality.ensures.value
    ∙ (λ i. c.if-is_reference.ensures i || (c.if-has_equality.ensures i && all))
    ∙ sym (ap (λ u. admits naming (type_of u)) c.in-Name.is ∙ admits-name c.in-Name.name c.in-Name.parts)

pub admits_equality-returns-else-has_equality : goal.admits_equality-returns-else-has_equality
admits_equality-returns-else-has_equality t c =
    let all : Bool = all_admit naming (types_of (parts_of c.in-Name.parts.items)) in
    c.if-has_equality.false
    ∙ (λ i. c.if-is_reference.ensures i || (c.if-has_equality.ensures i && all))
    ∙ sym (ap (λ u. admits naming (type_of u)) c.in-Name.is ∙ admits-name c.in-Name.name c.in-Name.parts)

pub all_admit_equality-loop-part-init : goal.all_admit_equality-loop-part-init
all_admit_equality-loop-part-init t c = all_admit-none

pub all_admit_equality-returns-then-not-admits_equality :
    goal.all_admit_equality-returns-then-not-admits_equality
all_admit_equality-returns-then-not-admits_equality t c =
    let xs = c.args.parts.now in
    let x = c.part-item.result in
    let i = c.loop-part.part-index in
    let rest : List (Rc MlType Global) = drop (suc i) xs in
    let split : take i xs ++ (x ∷ rest) ≡ xs =
    ap (λ y. take i xs ++ (y ∷ rest)) c.part-item.is ∙ ap (λ l. take i xs ++ l) (sym (drop-cons xs i x c.loop-part-test.true)) ∙ take-append-drop i xs in
    ap (λ b. b && all_admit naming (types_of (parts_of rest))) (c.if-not-admits_equality.ensures ∙ ap (λ u. admits naming (type_of u)) c.deref.ensures)
    ∙ sym (all_admit-after (take i xs) rest x c.loop-part.invariant)
    ∙ ap (λ l. all_admit naming (types_of (parts_of l))) split

pub all_admit_equality-loop-part-preserved : goal.all_admit_equality-loop-part-preserved
all_admit_equality-loop-part-preserved t c =
    let xs = c.args.parts.now in
    let x = c.part-item.result in
    let i = c.loop-part.part-index in
    let taken = (take_at_read xs i x c.loop-part-test.true).1 ∙ ap (λ y. take i xs ++ (y ∷ [])) (sym c.part-item.is) in
    ap (λ l. all_admit naming (types_of (parts_of l))) taken
    ∙ all_admit-after (take i xs) [] x c.loop-part.invariant
    ∙ (λ i. sym (c.if-not-admits_equality.ensures ∙ ap (λ u. admits naming (type_of u)) c.deref.ensures) i && all_admit-none i)
