use Rattle.std.proofs.Common.{◌≡◌, ◌<◌, ◌∷◌, [], ◌++◌, length, ap, sym, ◌∙◌, arith}
use Rattle.std.specs.List.{AllByRecursion}
use Rattle.sml_graph.specs.Graphs.{node_at, parts}
use Rattle.sml_graph.proofs.Merging.{all-append}
use Rattle.sml_graph.proofs.Interning.{parts-inside}
use Rattle.sml_graph.proofs.Searching.{read_at}
use Rattle.sml_graph.proofs.Limiting.{front-inside}
use Rattle.sml_demands.proofs.Counting.{counting-first, counting-parts, counted-more}
use Rattle.sml_demands.proofs.count.size_from.Goals as goal

pub loop-at-init : goal.loop-at-init
loop-at-init c =
    let e : c.push.new.self.items ≡ c.args.root ∷ [] = c.in_ok-push.ensures.items ∙ ap (λ xs. xs ++ c.args.root ∷ []) c.new-pending.ensures.items in
    record {
      counting = counting-first c.args.nodes.now c.args.root c.push.new.self.items c.requires.rank e;
      within = omega arith;
      inside = rw e (c.requires.inside, tt);
    }

pub returns-then-limit-size : goal.returns-then-limit-size
returns-then-limit-size c =
    counted-more c.args.nodes.now c.args.root c.args.limit c.loop-at.size c.loop-at.pending.items c.pop.new.self.items c.in-Some.at c.loop-at.invariant.counting c.in-Some.ensures.items c.loop-at.invariant.within c.if-limit-size.true

pub root_of-requires-clause-inside : goal.root_of-requires-clause-inside
root_of-requires-clause-inside c =
    let i : AllByRecursion (λ i. i < length c.args.nodes.now) (c.pop.new.self.items ++ c.in-Some.at ∷ []) = rw c.in-Some.ensures.items at c.loop-at.invariant.inside in
    (front-inside (λ i. i < length c.args.nodes.now) c.pop.new.self.items c.in-Some.at i).1

pub loop-at-preserved : goal.loop-at-preserved
loop-at-preserved c =
    let ns = c.args.nodes.now in
    let here = c.root_of.result in
    let x = c.index-nodes-root_of.result in
    let e : node_at ns here ≡ x = read_at ns here x c.root_of.ensures.inside c.index-nodes-root_of.is in
    let f : c.extend_from_slice.new.self.items ≡ c.pop.new.self.items ++ parts (node_at ns here) = c.in_ok-extend_from_slice.ensures.items ∙ ap (λ xs. c.pop.new.self.items ++ xs) (c.parts.ensures ∙ ap parts (sym e)) in
    let i : AllByRecursion (λ i. i < length ns) (c.pop.new.self.items ++ c.in-Some.at ∷ []) = rw c.in-Some.ensures.items at c.loop-at.invariant.inside in
    record {
      counting = counting-parts ns c.args.root c.loop-at.size c.loop-at.pending.items c.pop.new.self.items c.extend_from_slice.new.self.items c.in-Some.at here c.loop-at.invariant.counting c.in-Some.ensures.items c.root_of.ensures.same c.root_of.ensures.root f;
      within = c.if-limit-size.false;
      inside = rw f (all-append (λ i. i < length ns) c.pop.new.self.items (parts (node_at ns here)) (front-inside (λ i. i < length ns) c.pop.new.self.items c.in-Some.at i).0 (parts-inside (length ns) here (node_at ns here) c.root_of.ensures.inside (c.requires.sound here)));
    }
