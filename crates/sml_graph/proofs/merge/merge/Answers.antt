use Rattle.std.proofs.Common.{◌≡◌, ◌≢◌, ◌<◌, ◌∙◌, set, sym, ap, arith, length, Err}
use Rattle.sml_graph.specs.declared.merge.Unsolved.TheVariants.{Clash}
use Rattle.sml_graph.specs.Graphs.{node_at}
use Rattle.std.proofs.Math.ListN.{length-set}
use Rattle.sml_graph.proofs.Changing.{changes-two}
use Rattle.sml_graph.proofs.Merging.{merged-as, clash, read_node, read_other, node_at-same, node_at-other}
use Rattle.sml_graph.proofs.merge.merge.Goals as goal

pub returns-in-Err-clause-clash : goal.returns-in-Err-clause-clash
returns-in-Err-clause-clash c e =
    let ns = c.args.nodes.now.items in
    let inside : c.args.high < length ns = omega arith in
    let inside' : c.args.low < length ns = omega arith in
    let ne : c.args.low ≢ c.args.high = (λ e. omega arith) in
    let hi : node_at ns c.args.high ≡ c.into_node.result = read_node ns c.args.high c.index_mut.result.now c.replace-upper.result inside c.index_mut.ensures.value (sym c.replace-upper.ensures.value) ∙ sym c.into_node.ensures in
    let lo : node_at ns c.args.low ≡ c.into_node-2.result = read_other ns c.args.high c.args.low c.replace-upper.new.dest c.index_mut-2.result.now c.replace-lower.result inside' ne c.index_mut-2.ensures.value (sym c.replace-lower.ensures.value) ∙ sym c.into_node-2.ensures in
    clash ns c.args.high c.args.low c.into_node.result c.into_node-2.result hi lo (let f : c.in-Err.fault ≡ Clash = cc in c.in-Err.ensures.clash (ap Err f))

pub returns-in_ok-push-in-Ok-2-clause-merges : goal.returns-in_ok-push-in-Ok-2-clause-merges
returns-in_ok-push-in-Ok-2-clause-merges c =
    let ns = c.args.nodes.now.items in
    let inside : c.args.high < length ns = omega arith in
    let inside' : c.args.low < length ns = omega arith in
    let ne : c.args.low ≢ c.args.high = (λ e. omega arith) in
    let hi : node_at ns c.args.high ≡ c.into_node.result = read_node ns c.args.high c.index_mut.result.now c.replace-upper.result inside c.index_mut.ensures.value (sym c.replace-upper.ensures.value) ∙ sym c.into_node.ensures in
    let lo : node_at ns c.args.low ≡ c.into_node-2.result = read_other ns c.args.high c.args.low c.replace-upper.new.dest c.index_mut-2.result.now c.replace-lower.result inside' ne c.index_mut-2.ensures.value (sym c.replace-lower.ensures.value) ∙ sym c.into_node-2.ensures in
    rw c.in_ok-nodes-in-Ok.ensures (merged-as ns c.args.pending.now.items c.args.high c.args.low c.into_node.result c.into_node-2.result c.in-Ok.joined c.replace-upper.new.dest c.replace-lower.new.dest c.join.new.pending.items c.requires.sound c.requires.inside c.requires.order inside hi lo (c.replace-upper.ensures.after ∙ c.link.ensures) c.in-Ok.ensures.joins)

pub returns-in_ok-push-in-Ok-2-clause-changes : goal.returns-in_ok-push-in-Ok-2-clause-changes
returns-in_ok-push-in-Ok-2-clause-changes c =
    let ns = c.args.nodes.now.items in
    let inside : c.args.high < length ns = omega arith in
    let inside' : c.args.low < length ns = omega arith in
    let ne : c.args.low ≢ c.args.high = (λ e. omega arith) in
    let hi : node_at ns c.args.high ≡ c.into_node.result = read_node ns c.args.high c.index_mut.result.now c.replace-upper.result inside c.index_mut.ensures.value (sym c.replace-upper.ensures.value) ∙ sym c.into_node.ensures in
    let lo : node_at ns c.args.low ≡ c.into_node-2.result = read_other ns c.args.high c.args.low c.replace-upper.new.dest c.index_mut-2.result.now c.replace-lower.result inside' ne c.index_mut-2.ensures.value (sym c.replace-lower.ensures.value) ∙ sym c.into_node-2.ensures in
    let n1 = set ns c.args.high c.replace-upper.new.dest in
    let n2 = set n1 c.args.low c.replace-lower.new.dest in
    let ms = set n2 c.args.low c.in-Ok.joined in
    let l : c.args.low < length n2 = rw (length-set, length-set) inside' in
    let there : node_at ms c.args.low ≡ c.in-Ok.joined = node_at-same n2 c.args.low c.in-Ok.joined l in
    rw (c.in_ok-push-in-Ok-2.ensures.items, c.in_ok-push-in-Ok.ensures.items, c.of-in-Ok.ensures, c.in_ok-nodes-in-Ok.ensures)
    (changes-two ns ms c.args.changed.now.items c.args.high c.args.low c.in-Ok.from inside inside' (λ i a b. node_at-other n2 c.args.low i c.in-Ok.joined b ∙ (node_at-other n1 c.args.low i c.replace-lower.new.dest b ∙ node_at-other ns c.args.high i c.replace-upper.new.dest a)) (rw (lo, there) c.in-Ok.ensures.keeps))
