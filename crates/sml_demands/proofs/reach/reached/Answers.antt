use Rattle.std.proofs.Common.{◌≡◌, ◌<◌, ◌++◌, length, set, true, false, ap, sym, ◌∙◌, refl, arith}
use Rattle.std.proofs.lemmas.List.{get_or_default}
use Rattle.sml_objects.proofs.Closings.{filled}
use Rattle.sml_graph.specs.Graphs.{node_at, parts}
use Rattle.sml_graph.proofs.Searching.{read_at}
use Rattle.sml_demands.proofs.Reaching.{reach-first, reach-skip, reach-inside, reach-mark, reach-less}
use Rattle.sml_demands.proofs.reach.reached.Goals as goal

pub loop-at-init : goal.loop-at-init
loop-at-init c =
    let n = length c.args.nodes.now in
    reach-first c.args.nodes.now c.args.from.now c.resize.new.self.items c.in_ok-pending.pending.items n c.requires.inside
    (filled n n c.new-marks.result.items c.resize.new.self.items _ c.new-marks.ensures.items c.new-marks.ensures.len c.in_ok-resize.ensures.items (omega arith))
    (omega arith) c.in_ok-pending.ensures.items

pub loop-at-preserved : goal.loop-at-preserved
loop-at-preserved c =
    let ns = c.args.nodes.now in
    let ms = c.loop-at.marks.items in
    let is = c.loop-at.pending.items in
    let js = c.pop.new.self.items in
    let at = c.in-Some.at in
    let r = c.loop-at.invariant in
    let h : at < length ms = let i = reach-inside ns c.args.from.now ms is js at r c.in-Some.ensures.items in let n = r.len in omega (arith, i, n) in
    reach-skip ns c.args.from.now ms is js at r c.in-Some.ensures.items (get_or_default ms at false _ h ∙ (sym c.index.ensures ∙ c.if-not-index.false))

pub loop-at-preserved-in-Continue-branch-3 : goal.loop-at-preserved-in-Continue-branch-3
loop-at-preserved-in-Continue-branch-3 c =
    let ns = c.args.nodes.now in
    let ms = c.loop-at.marks.items in
    let is = c.loop-at.pending.items in
    let js = c.pop.new.self.items in
    let at = c.in-Some.at in
    let r = c.loop-at.invariant in
    let i = reach-inside ns c.args.from.now ms is js at r c.in-Some.ensures.items in
    let node : node_at ns at ≡ c.index-nodes-at.result = read_at ns at c.index-nodes-at.result i c.index-nodes-at.is in
    reach-mark ns c.args.from.now ms is js at (set ms at true) c.push_parts.new.pending.items c.requires.sound r c.in-Some.ensures.items refl (c.in_ok-push_parts.ensures ∙ ap (λ x. js ++ parts x) (sym node))

pub loop-at-smaller-in-Continue-branch-3 : goal.loop-at-smaller-in-Continue-branch-3
loop-at-smaller-in-Continue-branch-3 c =
    let ns = c.args.nodes.now in
    let ms = c.loop-at.marks.items in
    let is = c.loop-at.pending.items in
    let js = c.pop.new.self.items in
    let at = c.in-Some.at in
    let r = c.loop-at.invariant in
    let i = reach-inside ns c.args.from.now ms is js at r c.in-Some.ensures.items in
    let h : at < length ms = let n = r.len in omega (arith, i, n) in
    let node : node_at ns at ≡ c.index-nodes-at.result = read_at ns at c.index-nodes-at.result i c.index-nodes-at.is in
    reach-less ns c.args.from.now ms (set ms at true) is js c.push_parts.new.pending.items at r c.in-Some.ensures.items (get_or_default ms at false _ h ∙ (sym c.index.ensures ∙ c.if-not-index.true)) refl (c.in_ok-push_parts.ensures ∙ ap (λ x. js ++ parts x) (sym node))
