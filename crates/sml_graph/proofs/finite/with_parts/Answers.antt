use Rattle.std.proofs.Common.{◌≡◌, ◌+◌, ◌<◌, ◌∷◌, [], ◌++◌, inl, length, take, drop, get_or, refl}
use Rattle.std.proofs.lemmas.List.{get_or_default}
use Rattle.sml_objects.specs.Appearance.{Stands}
use Rattle.sml_objects.proofs.Standing as Standing
use Rattle.sml_graph.specs.declared.change.Change.{Change}
use Rattle.sml_graph.specs.Graphs.{node_at, parts}
use Rattle.sml_graph.proofs.Merging.{all-append}
use Rattle.sml_graph.proofs.Changing.{all-changes, all-rest}
use Rattle.sml_graph.proofs.Interning.{all-at, parts-inside, take-next}
use Rattle.sml_graph.proofs.Searching.{read_at}
use Rattle.sml_graph.proofs.finite.with_parts.Goals as goal

pub loop-change-preserved : goal.loop-change-preserved
unfolding Stands
loop-change-preserved c =
    let ns = c.args.nodes.now in
    let cs = c.args.changed.now in
    let i = c.loop-change.change-index in
    let none : Change = record { node = 0; from = 0 } in
    let d : Change = get_or cs i none in
    let l : d.node < length ns = all-at (λ c. c.node < length ns) cs i none c.requires.inside c.loop-change-test.true in
    let n : node_at ns d.node ≡ c.index-nodes-change.result = read_at ns d.node c.index-nodes-change.result l c.index-nodes-change.is in
    let new = drop d.from (parts (node_at ns d.node)) in
    let a = all-rest (λ k. k < length ns) d.from (parts (node_at ns d.node)) (parts-inside (length ns) d.node (node_at ns d.node) l (c.requires.sound d.node)) in
    let next : take (i + 1) cs ≡ take i cs ++ d ∷ [] = take-next cs i d c.loop-change-test.true (get_or_default cs i none d c.loop-change-test.true) in
    let old = c.loop-change.all.items in
    let e : c.extend_from_slice.new.self.items ≡ (old ++ d.node ∷ []) ++ new = rw (c.in_ok-extend_from_slice.ensures.items, c.in_ok-push.ensures.items, c.parts_from.ensures, n) refl in
    rw (e, next) record {
      inside = all-append (λ i. i < length ns) (old ++ d.node ∷ []) new (all-append (λ i. i < length ns) old (d.node ∷ []) c.loop-change.invariant.inside (l, tt)) a;
      changed = all-append (λ c. Stands c.node ((old ++ d.node ∷ []) ++ new)) (take i cs) (d ∷ []) (all-changes (λ c. Stands c.node old) (λ c. Stands c.node ((old ++ d.node ∷ []) ++ new)) (take i cs) (λ c m. Standing.left c.node (old ++ d.node ∷ []) new (Standing.left c.node old (d.node ∷ []) m)) c.loop-change.invariant.changed) (Standing.left d.node (old ++ d.node ∷ []) new (Standing.right d.node old (d.node ∷ []) (inl refl)), tt);
    }
