use Rattle.std.proofs.Common.{◌≡◌, ap, sym, ◌∙◌, suc, List, Global, Bool, false, not, ◌||◌, take, drop, ◌++◌, ◌∷◌, []}
use Rattle.std.proofs.lemmas.Grind.{take_at_read}
use Rattle.std.proofs.lemmas.List.{take-append-drop}
use Rattle.std.proofs.Math.Seq.{drop-cons}
use Rattle.std.specs.declared.rc.Rc.{Rc}
use Rattle.sml_objects.specs.declared.objects.MlType.{MlType}
use Rattle.sml_objects.specs.Objects.{types_of}
use Rattle.sml_objects.specs.Views.{type_of}
use Rattle.sml_objects.proofs.TypeViews.{parts_of}
use Rattle.sml_core_rules.specs.Values.{has_unknown, have_unknown}
use Rattle.sml_bases.proofs.Unknowns.{unknown-bound, unknown-free, unknown-row, unknown-arrow, unknown-name, unknown-none, unknown-after, some-unknown, no-unknown}
use Rattle.sml_bases.proofs.ground.+ground.Goals as goal

pub is_ground-returns-in-Bound : goal.is_ground-returns-in-Bound
is_ground-returns-in-Bound t c = sym (ap (λ u. not (has_unknown (type_of u))) c.in-Bound.is ∙ ap not (unknown-bound c.in-Bound.field-0))

pub is_ground-returns-in-Free : goal.is_ground-returns-in-Free
is_ground-returns-in-Free t c = sym (ap (λ u. not (has_unknown (type_of u))) c.in-Free.is ∙ ap not (unknown-free c.in-Free.field-0))

pub is_ground-returns-in-Row : goal.is_ground-returns-in-Row
is_ground-returns-in-Row t c =
    c.are_ground.ensures
    ∙ ap (λ ts. not (have_unknown (types_of (parts_of ts)))) c.deref.ensures.value
    ∙ sym (ap (λ u. not (has_unknown (type_of u))) c.in-Row.is ∙ ap not (unknown-row c.in-Row.field-0 c.in-Row.parts))

pub is_ground-returns-in-Name : goal.is_ground-returns-in-Name
is_ground-returns-in-Name t c =
    c.are_ground-in-Name.ensures
    ∙ ap (λ ts. not (have_unknown (types_of (parts_of ts)))) c.deref-in-Name.ensures.value
    ∙ sym (ap (λ u. not (has_unknown (type_of u))) c.in-Name.is ∙ ap not (unknown-name c.in-Name.field-0 c.in-Name.parts))

pub is_ground-returns-then-is_ground : goal.is_ground-returns-then-is_ground
is_ground-returns-then-is_ground t c =
    let from : Bool = has_unknown (type_of c.in-Arrow.from.value) in
    let to : Bool = has_unknown (type_of c.in-Arrow.to.value) in
    let first : from ≡ false = no-unknown from (sym c.if-is_ground.true ∙ c.is_ground.ensures ∙ ap (λ u. not (has_unknown (type_of u))) c.deref-in-Arrow.ensures) in
    c.is_ground-then-is_ground.ensures
    ∙ ap (λ u. not (has_unknown (type_of u))) c.deref-then-is_ground.ensures
    ∙ ap (λ b. not (b || to)) (sym first)
    ∙ sym (ap (λ u. not (has_unknown (type_of u))) c.in-Arrow.is ∙ ap not (unknown-arrow c.in-Arrow.from c.in-Arrow.to))

pub is_ground-returns-else-is_ground : goal.is_ground-returns-else-is_ground
is_ground-returns-else-is_ground t c =
    let from : Bool = has_unknown (type_of c.in-Arrow.from.value) in
    let to : Bool = has_unknown (type_of c.in-Arrow.to.value) in
    c.if-is_ground.false
    ∙ some-unknown from to (sym c.if-is_ground.false ∙ c.is_ground.ensures ∙ ap (λ u. not (has_unknown (type_of u))) c.deref-in-Arrow.ensures)
    ∙ sym (ap (λ u. not (has_unknown (type_of u))) c.in-Arrow.is ∙ ap not (unknown-arrow c.in-Arrow.from c.in-Arrow.to))

pub are_ground-loop-part-init : goal.are_ground-loop-part-init
are_ground-loop-part-init t c = unknown-none

pub are_ground-returns-then-not-is_ground : goal.are_ground-returns-then-not-is_ground
are_ground-returns-then-not-is_ground t c =
    let xs = c.args.parts.now in
    let x = c.part-item.result in
    let i = c.loop-part.part-index in
    let rest : List (Rc MlType Global) = drop (suc i) xs in
    let split : take i xs ++ (x ∷ rest) ≡ xs =
    ap (λ y. take i xs ++ (y ∷ rest)) c.part-item.is ∙ ap (λ l. take i xs ++ l) (sym (drop-cons xs i x c.loop-part-test.true)) ∙ take-append-drop i xs in
    some-unknown (has_unknown (type_of x.value)) (have_unknown (types_of (parts_of rest))) (c.if-not-is_ground.ensures ∙ ap (λ u. not (has_unknown (type_of u))) c.deref.ensures)
    ∙ ap not (sym (unknown-after (take i xs) rest x c.loop-part.invariant))
    ∙ ap (λ l. not (have_unknown (types_of (parts_of l)))) split

pub are_ground-loop-part-preserved : goal.are_ground-loop-part-preserved
are_ground-loop-part-preserved t c =
    let xs = c.args.parts.now in
    let x = c.part-item.result in
    let i = c.loop-part.part-index in
    let taken = (take_at_read xs i x c.loop-part-test.true).1 ∙ ap (λ y. take i xs ++ (y ∷ [])) (sym c.part-item.is) in
    ap (λ l. have_unknown (types_of (parts_of l))) taken
    ∙ unknown-after (take i xs) [] x c.loop-part.invariant
    ∙ (λ i. no-unknown (has_unknown (type_of x.value)) (c.if-not-is_ground.ensures ∙ ap (λ u. not (has_unknown (type_of u))) c.deref.ensures) i || unknown-none i)
