use Rattle.std.proofs.Common.{◌≡◌, ◌+◌, ◌∷◌, [], ◌++◌, ◌∙◌, take, get_or, length, refl, arith}
use Rattle.std.proofs.lemmas.List.{get_or_default}
use Rattle.sml_graph.specs.CodeRanks.{no_order, order_at}
use Rattle.sml_graph.proofs.Interning.{inside-at, take-next}
use Rattle.sml_graph.proofs.Searching.{done-or-new, all-done-more, gives-then}
use Rattle.sml_graph.proofs.finite.give_orders.Goals as goal
use Rattle.sml_graph.proofs.finite.give_orders.Goals.{else-given-orders-via-then-given-orders+in_ok-search+else-not-branch, else-given-orders-via-else-given-orders}

pub loop-root-preserved : goal.loop-root-preserved
loop-root-preserved c =
    let ns = c.args.nodes.now in
    let e = c.args.given.now.limit in
    let low = c.args.given.now.lowest in
    let os = c.loop-root.orders in
    let from = c.args.from.now in
    let i = c.loop-root.root-index in
    let root = get_or from i 0 in
    let v = c.loop-root.invariant in
    let ql = v.lowest in
    let qe = v.limit in
    let next : take (i + 1) from ≡ take i from ++ root ∷ [] = take-next from i root c.loop-root-test.true (get_or_default from i 0 root c.loop-root-test.true) in
    elim c.else-given-orders.branch [
      | else-given-orders-via-then-given-orders+in_ok-search+else-not-branch w ↦
          let t = w.if-not-branch.false in
          let s = rw (t, qe) at w.in_ok-search.ensures.search in
          let d = rw (t, qe) at w.in_ok-search.ensures.done in
          let g = rw (t, ql, qe) at w.in_ok-search.ensures.gives in
          rw (w.orders-is, w.given-is) record {
            lowest = w.in_ok-search.ensures.lowest ∙ ql;
            limit = w.in_ok-search.ensures.limit ∙ qe;
            search = s;
            gives = gives-then ns low e c.args.orders.now os w.search.new.orders c.requires.positive v.gives g;
            done = all-done-more e os w.search.new.orders (take i from) (take (i + 1) from) root v.done g.keeps d next;
          }
      | else-given-orders-via-else-given-orders w ↦
          let len = v.search.len in
          let l = inside-at (length ns) from i c.requires.inside c.loop-root-test.true in
          let o : order_at os root ≡ get_or os root 0 = get_or_default os root no_order 0 (omega (arith, l, len)) in
          rw (w.orders-is, w.given-is) record {
            lowest = ql;
            limit = qe;
            search = v.search;
            gives = v.gives;
            done = all-done-more e os os (take i from) (take (i + 1) from) root v.done (λ _ _. refl) (done-or-new ns e os root v.search (omega (arith, o, qe, w.if-given-orders.false))) next;
          }
    ]
