use Rattle.std.proofs.Common.{◌≡◌, ◌<◌, length, set, arith, refl}
use Rattle.sml_graph.specs.declared.node.Node.TheVariants.{Link}
use Rattle.sml_graph.specs.Graphs.{node_at, IsSoundNode}
use Rattle.sml_graph.proofs.Changing.{changes-none, changes-one, changes-then}
use Rattle.sml_graph.proofs.Merging.{leads-none, leads-then, leads-past, same-link, same-led, read_node}
use Rattle.sml_graph.proofs.merge.find.Goals as goal

pub loop-next-init : goal.loop-next-init
loop-next-init c = record {
  inside = c.requires.inside;
  leads = leads-none c.args.nodes.now.items c.requires.sound;
  changes = changes-none c.args.nodes.now.items c.args.changed.now.items;
  same = λ w σ m. refl;
}

pub loop-next-preserved-in_ok-push : goal.loop-next-preserved-in_ok-push
loop-next-preserved-in_ok-push c =
    let old = c.args.nodes.now.items in
    let ns = c.loop-next.nodes.items in
    let i = c.loop-next.invariant in
    let here = c.loop-next.here in
    let next = c.in-Link.next in
    let inside : here < length ns = omega arith in
    let e : node_at ns here ≡ Link next = read_node ns here c.index.result.now (Link next) inside c.index.ensures (rw c.in-Link.is at c.shape.ensures) in
    let a : IsSoundNode (length ns) here (Link next) = rw e at (i.leads.sound here) in
    let d : node_at ns next ≡ Link c.in-Link-shape.after = read_node ns next c.index-in-Link.result.now (Link c.in-Link-shape.after) (omega (arith, a)) c.index-in-Link.ensures (rw c.in-Link-shape.is at c.shape-in-Link.ensures) in
    record {
      inside = omega (arith, a);
      leads = rw c.link.ensures (leads-then old ns (set ns here (Link c.in-Link-shape.after)) i.leads (leads-past ns here next c.in-Link-shape.after i.leads.sound inside e d));
      changes = rw (c.in_ok-push.ensures.items, c.of.ensures, c.link.ensures) (changes-then old ns (set ns here (Link c.in-Link-shape.after)) c.args.changed.now.items c.loop-next.changed.items _ i.leads.len i.changes (changes-one ns c.loop-next.changed.items here (Link c.in-Link-shape.after) inside));
      same = same-led old ns c.args.at here next i.leads i.same (same-link ns here here next (λ w σ m. refl) e);
    }

pub loop-next-preserved : goal.loop-next-preserved
loop-next-preserved c =
    let old = c.args.nodes.now.items in
    let ns = c.loop-next.nodes.items in
    let i = c.loop-next.invariant in
    let here = c.loop-next.here in
    let next = c.in-Link.next in
    let inside : here < length ns = omega arith in
    let e : node_at ns here ≡ Link next = read_node ns here c.index.result.now (Link next) inside c.index.ensures (rw c.in-Link.is at c.shape.ensures) in
    let a : IsSoundNode (length ns) here (Link next) = rw e at (i.leads.sound here) in
    record {
      inside = omega (arith, a);
      leads = i.leads;
      changes = i.changes;
      same = same-led old ns c.args.at here next i.leads i.same (same-link ns here here next (λ w σ m. refl) e);
    }
