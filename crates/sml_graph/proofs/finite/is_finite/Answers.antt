use Rattle.std.proofs.Common.{◌≡◌, [], length, rules, arith}
use Rattle.std.specs.List.{AllByRecursion}
use Rattle.sml_graph.specs.CodeRanks.{no_order, order_at, AreFrom, AreOrderedBeside, Gives, IsDone, IsSearch}
use Rattle.sml_graph.proofs.Wholeness.{on_true3}
use Rattle.sml_graph.proofs.Ordering.{all-positive, from-given, ordered-new, ordered-beside, ordered-none, ordered-below, has-new, has-below, grounded}
use Rattle.sml_graph.proofs.finite.is_finite.Goals as goal

pub returns-then-is_empty-clause-ordered : goal.returns-then-is_empty-clause-ordered
returns-then-is_empty-clause-ordered c =
    let ns = c.args.nodes.now in
    let b = c.args.bottom.now in
    let os = c.args.orders.now in
    let ps = c.give_orders.new.orders in
    let is = c.args.changed.now in
    let js = c.in_ok-again.again.items in
    let t = c.if-not-branch.false in
    let s : IsSearch ns no_order ps [] = rw t at c.in_ok-give_orders.ensures.search in
    let g : Gives ns b no_order os ps = rw t at c.in_ok-give_orders.ensures.gives in
    let a : AreOrderedBeside ns ps js = ordered-beside ns ps is js (all-positive ns no_order ps s) (ordered-new ns b os ps is c.requires.ordered s g) c.in_ok-again.ensures.rest in
    ordered-none ns ps js (let z : length js ≡ 0 = search rules in z) a

pub returns-then-is_empty-clause-yes : goal.returns-then-is_empty-clause-yes
returns-then-is_empty-clause-yes c before r o =
    let ns = c.args.nodes.now in
    let b = c.args.bottom.now in
    let os = c.args.orders.now in
    let ps = c.give_orders.new.orders in
    let is = c.args.changed.now in
    let js = c.in_ok-again.again.items in
    let t = c.if-not-branch.false in
    let s : IsSearch ns no_order ps [] = rw t at c.in_ok-give_orders.ensures.search in
    let g : Gives ns b no_order os ps = rw t at c.in_ok-give_orders.ensures.gives in
    let a : AreOrderedBeside ns ps js = ordered-beside ns ps is js (all-positive ns no_order ps s) (ordered-new ns b os ps is c.requires.ordered s g) c.in_ok-again.ensures.rest in
    let d : AllByRecursion (λ i. IsDone no_order (order_at ps i)) c.in_ok-from.from.items = rw (t, c.as_slice.ensures.value) at c.in_ok-give_orders.ensures.done in
    let n = has-new ps c.in_ok-from.from.items is c.in_ok-from.ensures.changed d in
    grounded before ns ps is r o (ordered-none ns ps js (let z : length js ≡ 0 = search rules in z) a) n

pub returns-clause-ordered : goal.returns-clause-ordered
returns-clause-ordered c =
    let ns = c.args.nodes.now in
    let b = c.args.bottom.now in
    let os = c.args.orders.now in
    let ps = c.give_orders.new.orders in
    let is = c.args.changed.now in
    let js = c.in_ok-again.again.items in
    let t = c.if-not-branch.false in
    let s : IsSearch ns no_order ps [] = rw t at c.in_ok-give_orders.ensures.search in
    let g : Gives ns b no_order os ps = rw t at c.in_ok-give_orders.ensures.gives in
    let a : AreOrderedBeside ns ps js = ordered-beside ns ps is js (all-positive ns no_order ps s) (ordered-new ns b os ps is c.requires.ordered s g) c.in_ok-again.ensures.rest in
    let f : AreFrom b ps = from-given ns b b no_order os ps (omega arith) c.requires.from s g in
    let e = c.in_ok-below.ensures.limit in
    let v = c.as_slice-2.ensures.value in
    on_true3 c.in_ok-found.found _ _ _ _ c.in_ok-found.ensures.search c.in_ok-found.ensures.done c.in_ok-found.ensures.gives
    (λ z d h. ordered-below ns c.in_ok-below.below.lowest b ps c.give_orders-2.new.orders js f a (rw e at z) (rw (e, v) at d) (rw e at h))

pub returns-clause-yes : goal.returns-clause-yes
returns-clause-yes c =
    let ns = c.args.nodes.now in
    let b = c.args.bottom.now in
    let os = c.args.orders.now in
    let ps = c.give_orders.new.orders in
    let is = c.args.changed.now in
    let js = c.in_ok-again.again.items in
    let t = c.if-not-branch.false in
    let s : IsSearch ns no_order ps [] = rw t at c.in_ok-give_orders.ensures.search in
    let g : Gives ns b no_order os ps = rw t at c.in_ok-give_orders.ensures.gives in
    let a : AreOrderedBeside ns ps js = ordered-beside ns ps is js (all-positive ns no_order ps s) (ordered-new ns b os ps is c.requires.ordered s g) c.in_ok-again.ensures.rest in
    let d : AllByRecursion (λ i. IsDone no_order (order_at ps i)) c.in_ok-from.from.items = rw (t, c.as_slice.ensures.value) at c.in_ok-give_orders.ensures.done in
    let n = has-new ps c.in_ok-from.from.items is c.in_ok-from.ensures.changed d in
    let f : AreFrom b ps = from-given ns b b no_order os ps (omega arith) c.requires.from s g in
    let e = c.in_ok-below.ensures.limit in
    let v = c.as_slice-2.ensures.value in
    on_true3 c.in_ok-found.found _ _ _ _ c.in_ok-found.ensures.search c.in_ok-found.ensures.done c.in_ok-found.ensures.gives
    (λ z d h before r o.
    let qs = c.give_orders-2.new.orders in
    let low = c.in_ok-below.below.lowest in
    grounded before ns qs is r o (ordered-below ns low b ps qs js f a (rw e at z) (rw (e, v) at d) (rw e at h)) (has-below ns low b ps qs is f (rw e at z) (rw e at h) n))
