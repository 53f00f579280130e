use Rattle.std.proofs.Common.{◌≡◌, ◌+◌, ◌<◌, ◌≤◌, ◌∷◌, [], ◌++◌, length, sym, ap, ◌∙◌, arith, refl, inr, rules, get_or}
use Rattle.sml_graph.specs.Graphs.{node_at, parts}
use Rattle.sml_graph.specs.CodeRanks.{IsAbove, IsDone, IsSearch, order_at}
use Rattle.std.specs.List.{AllByRecursion}
use Rattle.sml_graph.proofs.Interning.{parts-inside}
use Rattle.sml_graph.proofs.Searching.{Reaches, search-begin, search-close, search-next, search-deeper, search-cycle, search-node, search-part, gives-none, gives-begin, gives-close, reach-begin, reach-close, reach-next, less-close, less-next, less-deeper, done-part, order-is, read_at, visited-last}
use Rattle.sml_graph.proofs.finite.search.Goals as goal

pub loop-visit-init : goal.loop-visit-init
loop-visit-init c =
    let ns = c.args.nodes.now in
    let e = c.args.given.now.limit in
    let low = c.args.given.now.lowest in
    let os = c.args.orders.now in
    let len = c.requires.search.len in
    let inside : c.args.root < length os = omega (arith, c.requires.inside, len) in
    let q : c.push.new.self.items ≡ [] ++ record { node = c.args.root; next = 0 } ∷ [] = c.in_ok-push.ensures.items ∙ ap (λ vs. vs ++ record { node = c.args.root; next = 0 } ∷ []) c.new-visits.ensures.items in
    record {
      lowest = refl;
      limit = refl;
      search = rw q (search-begin ns e os [] c.args.root (record { node = c.args.root; next = 0 }) c.requires.search c.requires.inside c.requires.new refl refl (λ r a i m. absurd m));
      gives = gives-begin ns low e os os c.args.root c.requires.positive inside c.requires.new (gives-none ns low e os);
      reaches = inr (rw q (visited-last c.args.root [] (record { node = c.args.root; next = 0 }) refl));
    }

pub bounds-nodes-visit : goal.bounds-nodes-visit
bounds-nodes-visit c =
    let s : IsSearch c.args.nodes.now c.args.given.now.limit c.loop-visit.orders (c.pop.new.self.items ++ c.in-Some.visit ∷ []) = rw c.in-Some.ensures.items at c.loop-visit.invariant.search in
    search-node c.args.nodes.now c.args.given.now.limit c.loop-visit.orders c.pop.new.self.items c.in-Some.visit s

pub offset_bounds-nodes-visit : goal.offset_bounds-nodes-visit
offset_bounds-nodes-visit c =
    let s : IsSearch c.args.nodes.now c.args.given.now.limit c.loop-visit.orders (c.pop.new.self.items ++ c.in-Some.visit ∷ []) = rw c.in-Some.ensures.items at c.loop-visit.invariant.search in
    let b : c.in-Some.visit.node < length c.args.nodes.now = search-node c.args.nodes.now c.args.given.now.limit c.loop-visit.orders c.pop.new.self.items c.in-Some.visit s in
    search rules

pub loop-visit-preserved-in-None : goal.loop-visit-preserved-in-None
loop-visit-preserved-in-None c =
    let ns = c.args.nodes.now in
    let e = c.args.given.now.limit in
    let low = c.args.given.now.lowest in
    let os = c.loop-visit.orders in
    let vs = c.pop.new.self.items in
    let v = c.in-Some.visit in
    let i = c.loop-visit.invariant in
    let m = c.in_ok-orders-in-None.field-0 in
    let s : IsSearch ns e os (vs ++ v ∷ []) = rw c.in-Some.ensures.items at i.search in
    let r : Reaches e c.args.root os (vs ++ v ∷ []) = rw c.in-Some.ensures.items at i.reaches in
    let here = search-node ns e os vs v s in
    let n : node_at ns v.node ≡ c.index-nodes-visit.result = read_at ns v.node c.index-nodes-visit.result here c.index-nodes-visit.is in
    let n2 : node_at ns v.node ≡ c.index-nodes-visit-in-None.result = read_at ns v.node c.index-nodes-visit-in-None.result here c.index-nodes-visit-in-None.is in
    let h : length (parts (node_at ns v.node)) ≤ v.next = rw n c.in-None.ensures.none in
    let q = i.lowest in
    let p = i.limit in
    let least : low ≤ m = omega (arith, q, c.in_ok-orders-in-None.ensures.least) in
    let below : m < e = omega (arith, p, c.in_ok-orders-in-None.ensures.below) in
    let above : IsAbove os (node_at ns v.node) m = rw n2 c.in_ok-orders-in-None.ensures.above in
    let z = c.requires.positive in
    let some : 0 < m = omega (arith, z, least) in
    record {
      lowest = c.of.ensures.lowest ∙ q;
      limit = c.of.ensures.limit ∙ p;
      search = search-close ns e os vs v m some s;
      gives = gives-close ns e os vs v low m c.args.orders.now z least below above s h i.gives;
      reaches = reach-close ns e os vs v m c.args.root some below s r;
    }

pub loop-visit-preserved : goal.loop-visit-preserved
loop-visit-preserved c =
    let ns = c.args.nodes.now in
    let e = c.args.given.now.limit in
    let os = c.loop-visit.orders in
    let vs = c.pop.new.self.items in
    let v = c.in-Some.visit in
    let k = c.in-Some-part_at.part in
    let i = c.loop-visit.invariant in
    let s : IsSearch ns e os (vs ++ v ∷ []) = rw c.in-Some.ensures.items at i.search in
    let r : Reaches e c.args.root os (vs ++ v ∷ []) = rw c.in-Some.ensures.items at i.reaches in
    let n : node_at ns v.node ≡ c.index-nodes-visit.result = read_at ns v.node c.index-nodes-visit.result (search-node ns e os vs v s) c.index-nodes-visit.is in
    let a : v.next < length (parts (node_at ns v.node)) = rw n c.in-Some-part_at.ensures.within in
    let b : k ≡ get_or (parts (node_at ns v.node)) v.next 0 = rw n c.in-Some-part_at.ensures.value in
    let o = order-is ns e os vs v k c.requires.sound s (a, b) in
    let d : IsDone e (order_at os k) = done-part e os k o c.if-order-eq0.false (let l = i.limit in omega (arith, l, c.if-given-order.false)) in
    rw c.in_ok-push-in-Some-part_at-3.ensures.items record {
      lowest = i.lowest;
      limit = i.limit;
      search = search-next ns e os vs v k (record { node = v.node; next = v.next + 1 }) s (a, b) d refl refl;
      gives = i.gives;
      reaches = reach-next ns e os vs v c.args.root (record { node = v.node; next = v.next + 1 }) refl r;
    }

pub loop-visit-preserved-in_ok-push-in-Some-part_at-2 : goal.loop-visit-preserved-in_ok-push-in-Some-part_at-2
loop-visit-preserved-in_ok-push-in-Some-part_at-2 c =
    let ns = c.args.nodes.now in
    let e = c.args.given.now.limit in
    let os = c.loop-visit.orders in
    let vs = c.pop.new.self.items in
    let v = c.in-Some.visit in
    let k = c.in-Some-part_at.part in
    let i = c.loop-visit.invariant in
    let s : IsSearch ns e os (vs ++ v ∷ []) = rw c.in-Some.ensures.items at i.search in
    let n : node_at ns v.node ≡ c.index-nodes-visit.result = read_at ns v.node c.index-nodes-visit.result (search-node ns e os vs v s) c.index-nodes-visit.is in
    let a : v.next < length (parts (node_at ns v.node)) = rw n c.in-Some-part_at.ensures.within in
    let b : k ≡ get_or (parts (node_at ns v.node)) v.next 0 = rw n c.in-Some-part_at.ensures.value in
    let r : Reaches e c.args.root os (vs ++ v ∷ []) = rw c.in-Some.ensures.items at i.reaches in
    let o = order-is ns e os vs v k c.requires.sound s (a, b) in
    let new : e ≤ order_at os k = let l = i.limit in omega (arith, o, l, c.if-given-order.true) in
    let len = s.len in
    let inside : k < length os = let l = search-part ns e os vs v k c.requires.sound s (a, b) in omega (arith, l, len) in
    rw (c.in_ok-push-in-Some-part_at-2.ensures.items, c.in_ok-push-in-Some-part_at.ensures.items) record {
      lowest = i.lowest;
      limit = i.limit;
      search = search-deeper ns e os vs v k (record { node = k; next = 0 }) c.requires.sound s (a, b) new refl refl;
      gives = gives-begin ns c.args.given.now.lowest e c.args.orders.now os k c.requires.positive inside new i.gives;
      reaches = reach-begin e os k c.args.root (vs ++ v ∷ []) (record { node = k; next = 0 }) new r;
    }

pub returns-then-order-eq0-clause-no : goal.returns-then-order-eq0-clause-no
returns-then-order-eq0-clause-no c =
    let ns = c.args.nodes.now in
    let e = c.args.given.now.limit in
    let os = c.loop-visit.orders in
    let vs = c.pop.new.self.items in
    let v = c.in-Some.visit in
    let k = c.in-Some-part_at.part in
    let i = c.loop-visit.invariant in
    let s : IsSearch ns e os (vs ++ v ∷ []) = rw c.in-Some.ensures.items at i.search in
    let n : node_at ns v.node ≡ c.index-nodes-visit.result = read_at ns v.node c.index-nodes-visit.result (search-node ns e os vs v s) c.index-nodes-visit.is in
    let a : v.next < length (parts (node_at ns v.node)) = rw n c.in-Some-part_at.ensures.within in
    let b : k ≡ get_or (parts (node_at ns v.node)) v.next 0 = rw n c.in-Some-part_at.ensures.value in
    search-cycle ns e os vs v k s (a, b) (sym (order-is ns e os vs v k c.requires.sound s (a, b)) ∙ c.if-order-eq0.true)

pub bounds-orders-part : goal.bounds-orders-part
bounds-orders-part c =
    let ns = c.args.nodes.now in
    let e = c.args.given.now.limit in
    let os = c.loop-visit.orders in
    let vs = c.pop.new.self.items in
    let v = c.in-Some.visit in
    let k = c.in-Some-part_at.part in
    let i = c.loop-visit.invariant in
    let s : IsSearch ns e os (vs ++ v ∷ []) = rw c.in-Some.ensures.items at i.search in
    let n : node_at ns v.node ≡ c.index-nodes-visit.result = read_at ns v.node c.index-nodes-visit.result (search-node ns e os vs v s) c.index-nodes-visit.is in
    let a : v.next < length (parts (node_at ns v.node)) = rw n c.in-Some-part_at.ensures.within in
    let b : k ≡ get_or (parts (node_at ns v.node)) v.next 0 = rw n c.in-Some-part_at.ensures.value in
    let l : k < length ns = search-part ns e os vs v k c.requires.sound s (a, b) in
    let len = s.len in
    omega (arith, l, len)

pub offset_bounds-orders-part : goal.offset_bounds-orders-part
offset_bounds-orders-part c =
    let ns = c.args.nodes.now in
    let e = c.args.given.now.limit in
    let os = c.loop-visit.orders in
    let vs = c.pop.new.self.items in
    let v = c.in-Some.visit in
    let k = c.in-Some-part_at.part in
    let i = c.loop-visit.invariant in
    let s : IsSearch ns e os (vs ++ v ∷ []) = rw c.in-Some.ensures.items at i.search in
    let n : node_at ns v.node ≡ c.index-nodes-visit.result = read_at ns v.node c.index-nodes-visit.result (search-node ns e os vs v s) c.index-nodes-visit.is in
    let a : v.next < length (parts (node_at ns v.node)) = rw n c.in-Some-part_at.ensures.within in
    let b : k ≡ get_or (parts (node_at ns v.node)) v.next 0 = rw n c.in-Some-part_at.ensures.value in
    let l : k < length ns = search-part ns e os vs v k c.requires.sound s (a, b) in
    let len = s.len in
    let m : k < length os = omega (arith, l, len) in
    search rules

pub bounds-orders-part-then-given-order : goal.bounds-orders-part-then-given-order
bounds-orders-part-then-given-order c =
    let ns = c.args.nodes.now in
    let e = c.args.given.now.limit in
    let os = c.loop-visit.orders in
    let vs = c.pop.new.self.items in
    let v = c.in-Some.visit in
    let k = c.in-Some-part_at.part in
    let i = c.loop-visit.invariant in
    let s : IsSearch ns e os (vs ++ v ∷ []) = rw c.in-Some.ensures.items at i.search in
    let n : node_at ns v.node ≡ c.index-nodes-visit.result = read_at ns v.node c.index-nodes-visit.result (search-node ns e os vs v s) c.index-nodes-visit.is in
    let a : v.next < length (parts (node_at ns v.node)) = rw n c.in-Some-part_at.ensures.within in
    let b : k ≡ get_or (parts (node_at ns v.node)) v.next 0 = rw n c.in-Some-part_at.ensures.value in
    let l : k < length ns = search-part ns e os vs v k c.requires.sound s (a, b) in
    let len = s.len in
    omega (arith, l, len)

pub offset_bounds-orders-part-then-given-order : goal.offset_bounds-orders-part-then-given-order
offset_bounds-orders-part-then-given-order c =
    let ns = c.args.nodes.now in
    let e = c.args.given.now.limit in
    let os = c.loop-visit.orders in
    let vs = c.pop.new.self.items in
    let v = c.in-Some.visit in
    let k = c.in-Some-part_at.part in
    let i = c.loop-visit.invariant in
    let s : IsSearch ns e os (vs ++ v ∷ []) = rw c.in-Some.ensures.items at i.search in
    let n : node_at ns v.node ≡ c.index-nodes-visit.result = read_at ns v.node c.index-nodes-visit.result (search-node ns e os vs v s) c.index-nodes-visit.is in
    let a : v.next < length (parts (node_at ns v.node)) = rw n c.in-Some-part_at.ensures.within in
    let b : k ≡ get_or (parts (node_at ns v.node)) v.next 0 = rw n c.in-Some-part_at.ensures.value in
    let l : k < length ns = search-part ns e os vs v k c.requires.sound s (a, b) in
    let len = s.len in
    let m : k < length os = omega (arith, l, len) in
    search rules

pub bounds-orders-visit : goal.bounds-orders-visit
bounds-orders-visit c =
    let s : IsSearch c.args.nodes.now c.args.given.now.limit c.loop-visit.orders (c.pop.new.self.items ++ c.in-Some.visit ∷ []) = rw c.in-Some.ensures.items at c.loop-visit.invariant.search in
    let l = search-node c.args.nodes.now c.args.given.now.limit c.loop-visit.orders c.pop.new.self.items c.in-Some.visit s in
    let len = s.len in
    omega (arith, l, len)

pub offset_bounds-orders-visit : goal.offset_bounds-orders-visit
offset_bounds-orders-visit c =
    let s : IsSearch c.args.nodes.now c.args.given.now.limit c.loop-visit.orders (c.pop.new.self.items ++ c.in-Some.visit ∷ []) = rw c.in-Some.ensures.items at c.loop-visit.invariant.search in
    let l = search-node c.args.nodes.now c.args.given.now.limit c.loop-visit.orders c.pop.new.self.items c.in-Some.visit s in
    let len = s.len in
    let m : c.in-Some.visit.node < length c.loop-visit.orders = omega (arith, l, len) in
    search rules

pub of-requires : goal.of-requires
of-requires c =
    let ns = c.args.nodes.now in
    let e = c.args.given.now.limit in
    let os = c.loop-visit.orders in
    let vs = c.pop.new.self.items in
    let v = c.in-Some.visit in
    let s : IsSearch ns e os (vs ++ v ∷ []) = rw c.in-Some.ensures.items at c.loop-visit.invariant.search in
    let here = search-node ns e os vs v s in
    let n : node_at ns v.node ≡ c.index-nodes-visit-in-None.result = read_at ns v.node c.index-nodes-visit-in-None.result here c.index-nodes-visit-in-None.is in
    let l : length os ≡ length ns = s.len in
    let a : AllByRecursion (λ k. k < length ns) (parts (node_at ns v.node)) = parts-inside (length ns) v.node (node_at ns v.node) here (c.requires.sound v.node) in
    rw (n, ← l) at a

pub loop-visit-smaller-in-None : goal.loop-visit-smaller-in-None
loop-visit-smaller-in-None c =
    let p = c.loop-visit.invariant.limit in
    less-close c.args.nodes.now c.args.given.now.limit c.loop-visit.orders c.pop.new.self.items c.loop-visit.visits.items c.in-Some.visit c.in_ok-orders-in-None.field-0 (omega (arith, p, c.in_ok-orders-in-None.ensures.below)) c.loop-visit.invariant.search c.in-Some.ensures.items

pub loop-visit-smaller : goal.loop-visit-smaller
loop-visit-smaller c =
    let ns = c.args.nodes.now in
    let e = c.args.given.now.limit in
    let os = c.loop-visit.orders in
    let vs = c.pop.new.self.items in
    let v = c.in-Some.visit in
    let s : IsSearch ns e os (vs ++ v ∷ []) = rw c.in-Some.ensures.items at c.loop-visit.invariant.search in
    let n : node_at ns v.node ≡ c.index-nodes-visit.result = read_at ns v.node c.index-nodes-visit.result (search-node ns e os vs v s) c.index-nodes-visit.is in
    let a : v.next < length (parts (node_at ns v.node)) = rw n c.in-Some-part_at.ensures.within in
    less-next ns e os vs c.loop-visit.visits.items v (record { node = v.node; next = v.next + 1 }) c.push-else-given-order.new.self.items c.in-Some.ensures.items c.in_ok-push-in-Some-part_at-3.ensures.items refl refl a

pub loop-visit-smaller-in_ok-push-in-Some-part_at-2 : goal.loop-visit-smaller-in_ok-push-in-Some-part_at-2
loop-visit-smaller-in_ok-push-in-Some-part_at-2 c =
    let ns = c.args.nodes.now in
    let e = c.args.given.now.limit in
    let os = c.loop-visit.orders in
    let vs = c.pop.new.self.items in
    let v = c.in-Some.visit in
    let k = c.in-Some-part_at.part in
    let i = c.loop-visit.invariant in
    let s : IsSearch ns e os (vs ++ v ∷ []) = rw c.in-Some.ensures.items at i.search in
    let n : node_at ns v.node ≡ c.index-nodes-visit.result = read_at ns v.node c.index-nodes-visit.result (search-node ns e os vs v s) c.index-nodes-visit.is in
    let a : v.next < length (parts (node_at ns v.node)) = rw n c.in-Some-part_at.ensures.within in
    let b : k ≡ get_or (parts (node_at ns v.node)) v.next 0 = rw n c.in-Some-part_at.ensures.value in
    let l : k < length ns = search-part ns e os vs v k c.requires.sound s (a, b) in
    let o = order-is ns e os vs v k c.requires.sound s (a, b) in
    let new : e ≤ order_at os k = let l = i.limit in omega (arith, o, l, c.if-given-order.true) in
    let q : c.push-then-given-order-2.new.self.items ≡ c.loop-visit.visits.items ++ record { node = k; next = 0 } ∷ [] = rw (c.in_ok-push-in-Some-part_at-2.ensures.items, c.in_ok-push-in-Some-part_at.ensures.items, c.in-Some.ensures.items) refl in
    less-deeper ns e os vs c.loop-visit.visits.items v k (record { node = k; next = 0 }) c.push-then-given-order-2.new.self.items i.search q l new refl refl
