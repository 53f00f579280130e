use Rattle.std.proofs.Common.{ap, ◌∙◌, sym, arith, take, ◌++◌, ◌∷◌, []}
use Rattle.std.proofs.lemmas.Grind.{take_at_read}
use Rattle.sml_objects.specs.Sizes.{type_size, types_size}
use Rattle.sml_objects.specs.Views.{type_of}
use Rattle.sml_objects.proofs.TypeViews.{parts_of}
use Rattle.sml_objects.proofs.TypeSizes.{sizes, sizes-push, sizes-take, size-bound, size-free, size-row, size-arrow, size-name}
use Rattle.sml_objects.proofs.sizes.+size.Goals as goal

pub size_within-returns-in-Bound : goal.size_within-returns-in-Bound
size_within-returns-in-Bound t c = omega (arith, ap (λ u. type_size (type_of u)) c.in-Bound.is ∙ size-bound c.in-Bound.field-0)

pub size_within-returns-in-Free : goal.size_within-returns-in-Free
size_within-returns-in-Free t c = omega (arith, ap (λ u. type_size (type_of u)) c.in-Free.is ∙ size-free c.in-Free.field-0)

pub size_within-returns-in-Row : goal.size_within-returns-in-Row
size_within-returns-in-Row t c =
    omega (
      arith,
      ap (λ u. type_size (type_of u)) c.in-Row.is ∙ size-row c.in-Row.field-0 c.in-Row.parts,
      ap (λ ts. sizes (parts_of ts)) c.deref.ensures.value,
      c.sizes_within.ensures,
    )

pub size_within-returns-in-Arrow : goal.size_within-returns-in-Arrow
size_within-returns-in-Arrow t c =
    omega (
      arith,
      ap (λ u. type_size (type_of u)) c.in-Arrow.is ∙ size-arrow c.in-Arrow.from c.in-Arrow.to,
      ap (λ u. type_size (type_of u)) c.deref-in-Arrow.ensures,
      ap (λ u. type_size (type_of u)) c.deref-in-Arrow-2.ensures,
      c.size_within-size.ensures,
      c.size_within.ensures,
    )

pub size_within-returns-in-Name : goal.size_within-returns-in-Name
size_within-returns-in-Name t c =
    omega (
      arith,
      ap (λ u. type_size (type_of u)) c.in-Name.is ∙ size-name c.in-Name.field-0 c.in-Name.parts,
      ap (λ ts. sizes (parts_of ts)) c.deref-in-Name.ensures.value,
      c.sizes_within-in-Name.ensures,
    )

pub sizes_within-loop-part-init : goal.sizes_within-loop-part-init
unfolding types_size
sizes_within-loop-part-init t c = omega arith

pub sizes_within-loop-part-preserved : goal.sizes_within-loop-part-preserved
sizes_within-loop-part-preserved t c =
    let xs = c.args.parts.now in
    let x = c.part-item.result in
    let i = c.loop-part.part-index in
    let taken = (take_at_read xs i x c.loop-part-test.true).1 ∙ ap (λ y. take i xs ++ (y ∷ [])) (sym c.part-item.is) in
    omega (
      arith,
      ap (λ l. sizes (parts_of l)) taken ∙ sizes-push (take i xs) x,
      c.loop-part.invariant,
      ap (λ u. type_size (type_of u)) c.deref.ensures,
      c.size_within-size.ensures,
    )

pub sizes_within-returns-then-size-most : goal.sizes_within-returns-then-size-most
sizes_within-returns-then-size-most t c =
    omega (arith, c.loop-part.invariant, sizes-take c.loop-part.part-index c.args.parts.now)
