use Rattle.std.proofs.Common.{◌≡◌, ◌+◌, ◌<◌, ◌∷◌, [], ◌++◌, length, take, get_or, arith}
use Rattle.std.proofs.lemmas.List.{get_or_default}
use Rattle.sml_graph.specs.CodeRanks.{no_order, order_at}
use Rattle.sml_graph.proofs.Interning.{inside-at, take-next}
use Rattle.sml_graph.proofs.Searching.{above-more}
use Rattle.sml_graph.proofs.orders.above_all.Goals as goal
use Rattle.sml_graph.proofs.orders.above_all.Goals.{then-order-orders+in-Some, else-order-orders}

pub loop-kid-preserved : goal.loop-kid-preserved
loop-kid-preserved c =
    let os = c.args.orders.now in
    let ks = c.args.kids.now in
    let i = c.loop-kid.kid-index in
    let k = get_or ks i 0 in
    let l : k < length os = inside-at (length os) ks i c.requires c.loop-kid-test.true in
    let o : order_at os k ≡ get_or os k 0 = get_or_default os k no_order 0 l in
    let next : take (i + 1) ks ≡ take i ks ++ k ∷ [] = take-next ks i k c.loop-kid-test.true (get_or_default ks i 0 k c.loop-kid-test.true) in
    let v = c.loop-kid.invariant in
    elim c.if-order-orders.branch [
      | then-order-orders+in-Some w ↦
          rw w.order-is record {
            above = above-more os (take i ks) (take (i + 1) ks) k c.loop-kid.order w.in-Some.next v.above (omega (arith, w.in-Some.ensures)) (omega (arith, o, w.in-Some.ensures)) next;
            least = omega (arith, v.least, w.in-Some.ensures);
          }
      | else-order-orders w ↦
          rw w.order-is record {
            above = above-more os (take i ks) (take (i + 1) ks) k c.loop-kid.order c.loop-kid.order v.above (omega arith) (omega (arith, o)) next;
            least = v.least;
          }
    ]
