use Rattle.std.proofs.Common.{◌≡◌, ◌<◌, ◌∷◌, [], ◌++◌, length, drop, arith, refl, ◌∙◌}
use Rattle.sml_objects.specs.Views.{maker_of}
use Rattle.sml_graph.specs.Graphs.{node_at, parts}
use Rattle.sml_graph.specs.Changes.{AreInside}
use Rattle.sml_graph.specs.Limits.{limit_at, handed, IsDoneBut, Lowers}
use Rattle.sml_graph.proofs.Changing.{all-rest}
use Rattle.sml_graph.proofs.Interning.{parts-inside}
use Rattle.sml_graph.proofs.Searching.{read_at}
use Rattle.sml_graph.proofs.Limiting.{but-handed, same-handed, same-then, unfit-fails, either-fails, done-fits, front-inside}
use Rattle.sml_graph.proofs.limits.hand_on_all.Goals as goal

pub hand_on-requires : goal.hand_on-requires
hand_on-requires c =
    let ns = c.args.nodes.now in
    let d = c.in-Some.change in
    let i = c.loop-change.invariant in
    let inside : AreInside (length c.loop-change.limits) (c.pop.new.self.items ++ d ∷ []) = rw c.in-Some.ensures.items at i.inside in
    let l : d.node < length ns = rw i.len at (front-inside (λ d. d.node < length c.loop-change.limits) c.pop.new.self.items d inside).1 in
    let n : node_at ns d.node ≡ c.index-nodes-change.result = read_at ns d.node c.index-nodes-change.result l c.index-nodes-change.is in
    rw (i.len, ← n) (all-rest (λ k. k < length ns) d.from (parts (node_at ns d.node)) (parts-inside (length ns) d.node (node_at ns d.node) l (c.requires.sound d.node)))

pub loop-change-preserved : goal.loop-change-preserved
loop-change-preserved c =
    let ns = c.args.nodes.now in
    let u = maker_of c.args.unit in
    let d = c.in-Some.change in
    let ls = c.loop-change.limits in
    let a = limit_at ls d.node in
    let i = c.loop-change.invariant in
    let inside : AreInside (length ls) (c.pop.new.self.items ++ d ∷ []) = rw c.in-Some.ensures.items at i.inside in
    let front = front-inside (λ c. c.node < length ls) c.pop.new.self.items d inside in
    let l : d.node < length ns = rw i.len at front.1 in
    let n : node_at ns d.node ≡ c.index-nodes-change.result = read_at ns d.node c.index-nodes-change.result l c.index-nodes-change.is in
    let b : IsDoneBut u ns ls c.loop-change.failed (c.pop.new.self.items ++ d ∷ []) = rw c.in-Some.ensures.items at i.but in
    let low : Lowers ls c.pop.new.self.items (drop d.from (parts (node_at ns d.node))) (handed (node_at ns d.node) a) c.hand_on.new.limits c.hand_on.new.pending.items = rw (n, ← c.get-limit.ensures) c.in_ok-hand_on.ensures in
    record {
      len = low.len ∙ i.len;
      inside = rw low.len (low.inside front.0);
      but = but-handed u a ns ls c.hand_on.new.limits c.loop-change.failed c.earlier-failed.result c.pop.new.self.items c.hand_on.new.pending.items d b refl c.earlier-failed.ensures.first (λ k h. rw (n, ← c.get-limit.ensures) (c.misfit.ensures.fits k (c.earlier-failed.ensures.second k h))) low;
      same = same-then u ns c.args.limits.now ls c.hand_on.new.limits i.same (same-handed u a ns ls c.hand_on.new.limits c.pop.new.self.items c.hand_on.new.pending.items d.node d.from refl low);
      fails = either-fails u ns c.args.limits.now c.loop-change.failed c.misfit.result c.earlier-failed.result c.earlier-failed.ensures.either i.fails (unfit-fails u ns c.args.limits.now ls d.node a c.misfit.result refl i.same (rw (n, ← c.get-limit.ensures) c.misfit.ensures.fails));
    }

pub returns-clause-fit : goal.returns-clause-fit
returns-clause-fit c = done-fits (maker_of c.args.unit) c.args.nodes.now c.loop-change.limits c.loop-change.failed c.loop-change.pending.items c.loop-change.invariant.but (omega (arith, c.in_default.ensures.len, c.in_default.ensures.cases.0))
