use Rattle.std.proofs.Common.{List, Global, sym, subst, ◌++◌, ◌∷◌, [], take, ap, ◌∙◌, ◌≡◌, false, true}
use Rattle.std.specs.declared.rc.Rc.{Rc}
use Rattle.std.proofs.lemmas.Grind.{take_at_read}
use Rattle.sml_objects.specs.Objects.{types_of}
use Rattle.sml_objects.specs.Views.{type_of}
use Rattle.sml_objects.specs.declared.objects.MlType.{MlType}
use Rattle.sml_objects.proofs.TypeViews.{parts_of}
use Rattle.sml_graph.specs.Interned.{IsBodyOver, AreBodiesOver}
use Rattle.sml_asks.proofs.Overs.{no-body, bodies-more, body-at, body-bound, body-free, body-row, body-arrow, body-name}
use Rattle.sml_asks.proofs.known.+body.Goals as goal

pub is_body_over-returns-in-Bound : goal.is_body_over-returns-in-Bound
is_body_over-returns-in-Bound t c = body-bound c.args.variables c.args.count c.args.ty.now c.in-Bound.variable c.in-Bound.is

pub is_body_over-returns-in-Free : goal.is_body_over-returns-in-Free
is_body_over-returns-in-Free t c = body-free c.args.variables c.args.count c.args.ty.now c.in-Free.unknown c.in-Free.is

pub is_body_over-returns-in-Row : goal.is_body_over-returns-in-Row
is_body_over-returns-in-Row t c =
    let P = λ (ts : List (Rc MlType Global)). AreBodiesOver c.args.variables c.args.count (types_of (parts_of ts)) in
    let row = body-row c.args.variables c.args.count c.args.ty.now c.in-Row.field-0 c.in-Row.parts c.in-Row.is in
    (λ h. row.0 (subst P c.deref.ensures.value (c.are_bodies_over.ensures.0 h)), λ h. c.are_bodies_over.ensures.1 (subst P (sym c.deref.ensures.value) (row.1 h)))

pub is_body_over-returns-then-is_body_over : goal.is_body_over-returns-then-is_body_over
is_body_over-returns-then-is_body_over t c =
    let P = λ (u : MlType). IsBodyOver c.args.variables c.args.count (type_of u) in
    let arrow = body-arrow c.args.variables c.args.count c.args.ty.now c.in-Arrow.from c.in-Arrow.to c.in-Arrow.is in (
      λ h. arrow.0 (
        subst P c.deref-in-Arrow.ensures (c.is_body_over.ensures.0 c.if-is_body_over.true),
        subst P c.deref-then-is_body_over.ensures (c.is_body_over-then-is_body_over.ensures.0 h),
      ),
      λ h. c.is_body_over-then-is_body_over.ensures.1 (subst P (sym c.deref-then-is_body_over.ensures) (arrow.1 h).1),
    )

pub is_body_over-returns-else-is_body_over : goal.is_body_over-returns-else-is_body_over
is_body_over-returns-else-is_body_over t c =
    let P = λ (u : MlType). IsBodyOver c.args.variables c.args.count (type_of u) in
    let arrow = body-arrow c.args.variables c.args.count c.args.ty.now c.in-Arrow.from c.in-Arrow.to c.in-Arrow.is in
    let no = λ (h : IsBodyOver c.args.variables c.args.count (type_of c.args.ty.now)). c.is_body_over.ensures.1 (subst P (sym c.deref-in-Arrow.ensures) (arrow.1 h).0) in
    (λ h. let e : false ≡ true = sym c.if-is_body_over.false ∙ h in cc, no)

pub is_body_over-returns-in-Name : goal.is_body_over-returns-in-Name
is_body_over-returns-in-Name t c =
    let P = λ (ts : List (Rc MlType Global)). AreBodiesOver c.args.variables c.args.count (types_of (parts_of ts)) in
    let name = body-name c.args.variables c.args.count c.args.ty.now c.in-Name.field-0 c.in-Name.parts c.in-Name.is in (
      λ h. name.0 (subst P c.deref-in-Name.ensures.value (c.are_bodies_over-in-Name.ensures.0 h)),
      λ h. c.are_bodies_over-in-Name.ensures.1 (subst P (sym c.deref-in-Name.ensures.value) (name.1 h)),
    )

pub are_bodies_over-loop-part-init : goal.are_bodies_over-loop-part-init
are_bodies_over-loop-part-init t c = no-body c.args.variables c.args.count

pub are_bodies_over-loop-part-preserved : goal.are_bodies_over-loop-part-preserved
are_bodies_over-loop-part-preserved t c =
    let b = c.args.variables in
    let n = c.args.count in
    let xs = c.args.parts.now in
    let x = c.part-item.result in
    let i = c.loop-part.part-index in
    let taken = (take_at_read xs i x c.loop-part-test.true).1 ∙ ap (λ y. take i xs ++ (y ∷ [])) (sym c.part-item.is) in
    subst (λ l. AreBodiesOver b n (types_of (parts_of l))) (sym taken)
    (bodies-more b n (take i xs) x c.loop-part.invariant
    (subst (λ (u : MlType). IsBodyOver b n (type_of u)) c.deref.ensures (c.is_body_over.ensures.0 c.if-not-is_body_over.false)))

pub are_bodies_over-returns-then-not-is_body_over : goal.are_bodies_over-returns-then-not-is_body_over
are_bodies_over-returns-then-not-is_body_over t c =
    let b = c.args.variables in
    let n = c.args.count in
    let P = λ (x : Rc MlType Global). IsBodyOver b n (type_of x.value) in
    let here = λ (h : AreBodiesOver b n (types_of (parts_of c.args.parts.now))).
    subst P (sym c.part-item.is) (body-at b n c.args.parts.now c.loop-part.part-index c.part-item.result c.loop-part-test.true h) in (
      λ h. let e : false ≡ true = h in cc,
      λ h. sym c.if-not-is_body_over.true ∙ c.is_body_over.ensures.1 (subst (λ (u : MlType). IsBodyOver b n (type_of u)) (sym c.deref.ensures) (here h)),
    )
