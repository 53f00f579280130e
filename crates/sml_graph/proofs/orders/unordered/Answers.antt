use Rattle.std.proofs.Common.{◌≡◌, ◌+◌, ◌<◌, ◌∷◌, [], ◌++◌, length, take, drop, get_or, arith}
use Rattle.std.proofs.lemmas.List.{get_or_default}
use Rattle.sml_graph.specs.declared.change.Change.{Change}
use Rattle.sml_graph.specs.Graphs.{node_at, parts}
use Rattle.sml_graph.specs.CodeRanks.{no_order, order_at, FindsUnordered}
use Rattle.sml_graph.proofs.Interning.{all-at, parts-inside, take-next}
use Rattle.sml_graph.proofs.Changing.{all-rest}
use Rattle.sml_graph.proofs.Searching.{read_at}
use Rattle.sml_graph.proofs.Ordering.{rest-more}
use Rattle.sml_graph.proofs.orders.unordered.Goals as goal

pub push_unordered-requires : goal.push_unordered-requires
push_unordered-requires c =
    let ns = c.args.nodes.now in
    let d : Change = get_or c.args.changed.now c.loop-change.change-index (record { node = 0; from = 0 }) in
    let l : d.node < length ns = all-at (λ c. c.node < length ns) c.args.changed.now c.loop-change.change-index (record { node = 0; from = 0 }) c.requires.inside c.loop-change-test.true in
    let n : node_at ns d.node ≡ c.index-nodes-change.result = read_at ns d.node c.index-nodes-change.result l c.index-nodes-change.is in
    let a = all-rest (λ k. k < length ns) d.from (parts (node_at ns d.node)) (parts-inside (length ns) d.node (node_at ns d.node) l (c.requires.sound d.node)) in
    let len : length c.args.orders.now ≡ length ns = c.requires.len in
    rw (len, c.parts_from-parts.ensures, ← n) a

pub loop-change-preserved : goal.loop-change-preserved
loop-change-preserved c =
    let ns = c.args.nodes.now in
    let os = c.args.orders.now in
    let cs = c.args.changed.now in
    let i = c.loop-change.change-index in
    let none : Change = record { node = 0; from = 0 } in
    let d : Change = get_or cs i none in
    let l : d.node < length ns = all-at (λ c. c.node < length ns) cs i none c.requires.inside c.loop-change-test.true in
    let n : node_at ns d.node ≡ c.index-nodes-change.result = read_at ns d.node c.index-nodes-change.result l c.index-nodes-change.is in
    let len : length os ≡ length ns = c.requires.len in
    let o : order_at os d.node ≡ get_or os d.node 0 = get_or_default os d.node no_order 0 (omega (arith, l, len)) in
    let next : take (i + 1) cs ≡ take i cs ++ d ∷ [] = take-next cs i d c.loop-change-test.true (get_or_default cs i none d c.loop-change-test.true) in
    let f : FindsUnordered os (drop d.from (parts (node_at ns d.node))) (order_at os d.node) c.loop-change.found.items c.push_unordered.new.found.items = rw (o, n, ← c.parts_from-parts.ensures) c.in_ok-push_unordered.ensures in
    record {
      inside = rw len at (f.inside (rw len c.loop-change.invariant.inside));
      rest = rest-more ns os c.loop-change.found.items c.push_unordered.new.found.items (take i cs) (take (i + 1) cs) d c.loop-change.invariant.rest next f;
    }
