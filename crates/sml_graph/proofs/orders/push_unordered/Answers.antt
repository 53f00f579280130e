use Rattle.std.proofs.Common.{◌≡◌, ◌+◌, ◌<◌, ◌∷◌, [], ◌++◌, length, take, get_or, arith}
use Rattle.std.proofs.lemmas.List.{get_or_default}
use Rattle.sml_graph.specs.CodeRanks.{no_order, order_at}
use Rattle.sml_graph.proofs.Interning.{inside-at, take-next}
use Rattle.sml_graph.proofs.Ordering.{finds-more, finds-below}
use Rattle.sml_graph.proofs.orders.push_unordered.Goals as goal
use Rattle.sml_graph.proofs.orders.push_unordered.Goals.{then-order-orders+in_ok-push, else-order-orders}

pub loop-part-preserved : goal.loop-part-preserved
loop-part-preserved c =
    let os = c.args.orders.now in
    let ks = c.args.parts.now in
    let i = c.loop-part.part-index in
    let k = get_or ks i 0 in
    let l : k < length os = inside-at (length os) ks i c.requires c.loop-part-test.true in
    let o : order_at os k ≡ get_or os k 0 = get_or_default os k no_order 0 l in
    let next : take (i + 1) ks ≡ take i ks ++ k ∷ [] = take-next ks i k c.loop-part-test.true (get_or_default ks i 0 k c.loop-part-test.true) in
    elim c.if-order-orders.branch [
      | then-order-orders+in_ok-push w ↦ rw w.found-is (finds-more os (take i ks) (take (i + 1) ks) c.loop-part.found.items w.push.new.self.items c.args.found.now.items k c.args.order c.loop-part.invariant next w.in_ok-push.ensures.items l)
      | else-order-orders w ↦ rw w.found-is (finds-below os (take i ks) (take (i + 1) ks) c.loop-part.found.items c.args.found.now.items k c.args.order c.loop-part.invariant next (omega (arith, o, w.if-order-orders.false)))
    ]
