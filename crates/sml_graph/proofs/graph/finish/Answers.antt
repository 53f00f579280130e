use Rattle.std.proofs.Common.{◌≡◌, ◌++◌, length, take, drop, ap, subst, sym, arith, None, refl}
use Rattle.std.proofs.Math.Seq.{take-append_seam}
use Rattle.sml_objects.specs.Views.{maker_of}
use Rattle.sml_layers.specs.declared.layer.Layer.{Layer}
use Rattle.sml_graph.specs.CodeRanks.{HasRank, AreFrom, AreOrdered}
use Rattle.sml_graph.specs.Limits.{IsBefore, IsFit, IsClosed, IsDoneBut, SameLimits}
use Rattle.sml_graph.specs.CodeWhole.{FailsAt}
use Rattle.sml_graph.proofs.Wholeness.{handed-fails}
use Rattle.sml_graph.proofs.graph.finish.Goals as goal

pub hand_on_from-requires-clause-but : goal.hand_on_from-requires-clause-but
hand_on_from-requires-clause-but c = subst (λ ns. IsDoneBut (maker_of c.args.unit) ns c.args.graph.now.limits None c.args.changed.now) (sym c.as_slice-nodes.ensures.value) c.requires.but

pub returns-in-Some-clause-unmet : goal.returns-in-Some-clause-unmet
returns-in-Some-clause-unmet c l e =
    let u = maker_of c.args.unit in
    let g = c.args.graph.now in
    let ns = g.nodes.items in
    let ls = c.hand_on_from.new.limits in
    let q : c.in-Some.layer ≡ l = cc in
    let v = c.as_slice-nodes.ensures.value in
    let rank : HasRank ns = rw v at (rw c.if-not-branch.false at c.in_ok-is_finite.ensures.yes c.requires.before c.requires.rank (rw v c.requires.outside)) in
    let closed : IsClosed ns ls = rw v at c.in_ok-layer.ensures.closed in
    let same : SameLimits u ns g.limits ls = rw v at c.in_ok-layer.ensures.same in
    let fit : (k : Layer) → IsBefore k c.in_ok-layer.field-0 → IsFit k u ns ls = rw v at c.in_ok-layer.ensures.fit in
    let fails = rw v at c.in_ok-layer.ensures.fails in
    subst (λ l. FailsAt l u g) q (handed-fails u g ls c.in_ok-layer.field-0 c.in-Some.layer rank closed fit same fails c.in-Some.is)

pub returns-in-None-clause-ok : goal.returns-in-None-clause-ok
returns-in-None-clause-ok c =
    let u = maker_of c.args.unit in
    let g = c.args.graph.now in
    let ns = g.nodes.items in
    let ls = c.hand_on_from.new.limits in
    let v = c.as_slice-nodes.ensures.value in
    let rank : HasRank ns = rw v at (rw c.if-not-branch.false at c.in_ok-is_finite.ensures.yes c.requires.before c.requires.rank (rw v c.requires.outside)) in
    let closed : IsClosed ns ls = rw v at c.in_ok-layer.ensures.closed in
    let same : SameLimits u ns g.limits ls = rw v at c.in_ok-layer.ensures.same in
    let fit : (k : Layer) → IsBefore k c.in_ok-layer.field-0 → IsFit k u ns ls = rw v at c.in_ok-layer.ensures.fit in
    let yes = c.in_ok-is_finite.ensures in
    let t = c.if-not-branch.false in
    let new = c.is_finite.new.orders in
    let n : g.orders.len ≡ length new = omega (arith, c.is_finite.auto.orders, c.as_mut_slice-orders.ensures.len) in
    let e : new ≡ take g.orders.len (new ++ drop (length new) g.orders.items) = (rw n (sym (take-append_seam new (drop (length new) g.orders.items)))) in
    let old : length g.orders.items ≡ length ns = c.requires.full.orders in
    let held : length c.as_mut_slice-orders.result.now ≡ length g.orders.items = ap length c.as_mut_slice-orders.ensures.value in
    let len : length new ≡ length ns = omega (arith, old, held, c.is_finite.auto.orders) in
    record {
      whole = record {
        full = record {
          limits = rw v at c.in_ok-layer.ensures.len;
          orders = subst (λ os. length os ≡ length ns) e len;
          bottom = record { from = subst (AreFrom c.is_finite.new.bottom) e (rw t at yes.from); positive = rw t at yes.positive };
        };
        sound = c.requires.sound;
        rank = rank;
        ordered = subst (AreOrdered ns) e (rw v at (rw t at yes.ordered));
        closed = closed;
        fit = λ k. fit k (rw c.in-None.is tt);
      };
      nodes = refl;
      limits = same;
    }
