use Rattle.std.proofs.Common.{ℕ, ◌+◌, ◌-◌, ◌/◌, ◌<◌, length, map, ap, sym, ◌∙◌, arith}
use Rattle.sml_tree.specs.Views.{ident_of}
use Rattle.sml_objects.specs.Labels.{label_order}
use Rattle.sml_objects.proofs.RisingLabels.{ident-at}
use Rattle.sml_objects.proofs.LabelPlaces.{after, in-front, stands-at}
use Rattle.std.proofs.lemmas.List.{length-map}
use Rattle.sml_objects.proofs.labels.place.Goals as goal

pub loop-low-preserved-in-Less : goal.loop-low-preserved-in-Less
loop-low-preserved-in-Less c =
    let low = c.loop-low.low in
    let m : ℕ = low + (c.loop-low.high - low) / 2 in
    let xs = c.args.list.now in
    let inv = c.loop-low.invariant in
    let below : m < length xs = omega (arith, c.loop-low-test.true, inv.1) in
    let o = ap (λ z. label_order z c.args.label.now) (ident-at xs m c.index-list-middle.result c.index-list-middle.is below) ∙ sym c.in-Less.ensures in (
      omega (arith, c.loop-low-test.true),
      inv.1,
      λ k s. (omega (arith, after (map ident_of xs) c.args.label.now m k c.requires (omega (arith, c.loop-low-test.true, inv.1, length-map xs ident_of)) o s), (inv.2 k s).1),
    )

pub returns-in-Equal-clause-some : goal.returns-in-Equal-clause-some
returns-in-Equal-clause-some c =
    let low = c.loop-low.low in
    let m : ℕ = low + (c.loop-low.high - low) / 2 in
    stands-at c.args.list.now c.args.label.now m c.index-list-middle.result (omega (arith, c.loop-low-test.true, c.loop-low.invariant.1)) c.index-list-middle.is
    (sym c.in-Equal.ensures)

pub loop-low-preserved : goal.loop-low-preserved
loop-low-preserved c =
    let low = c.loop-low.low in
    let m : ℕ = low + (c.loop-low.high - low) / 2 in
    let xs = c.args.list.now in
    let inv = c.loop-low.invariant in
    let o =
    ap (λ z. label_order z c.args.label.now) (ident-at xs m c.index-list-middle.result c.index-list-middle.is (omega (arith, c.loop-low-test.true, inv.1)))
    ∙ sym c.in-Greater.ensures in (
      omega arith,
      omega (arith, c.loop-low-test.true, inv.1),
      λ k s. ((inv.2 k s).0, in-front (map ident_of xs) c.args.label.now m k c.requires o s),
    )
