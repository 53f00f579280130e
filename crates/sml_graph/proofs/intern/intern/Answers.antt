use Rattle.std.proofs.Common.{◌≡◌, ◌+◌, ◌<◌, ◌++◌, ◌∷◌, [], length, ap, sym, ◌∙◌, arith, vec_len, get_or}
use Rattle.std.proofs.lemmas.List.{length-map, get_or-map}
use Rattle.sml_objects.specs.Objects as O
use Rattle.sml_objects.specs.Views.{type_of}
use Rattle.sml_graph.specs.Interned.{IsOver, Expands, seen}
use Rattle.sml_graph.proofs.Interning.{interning-first, interning-next, interning-last, interning-less, all-at}
use Rattle.sml_graph.proofs.intern.intern.Goals as goal

pub loop-next-init : goal.loop-next-init
loop-next-init c =
    interning-first c.args.nodes.now.items c.args.unknowns.now (type_of c.args.ty.now) (seen c.push.new.self.items) c.requires.sound c.requires.known
    (ap seen c.in_ok-push.ensures.items ∙ ap (λ xs. seen (xs ++ c.args.ty ∷ [])) c.new-types.ensures.items)

pub node_for-requires : goal.node_for-requires
node_for-requires c =
    let ts = c.loop-next.types.items in
    let n : length (seen ts) ≡ length ts = length-map ts (λ t. type_of t.now) in
    let h : c.loop-next.next < length (seen ts) = omega arith in
    let e : get_or (seen ts) c.loop-next.next (O.free 0) ≡ type_of c.index-here.result.now.now = get_or-map (λ t. type_of t.now) ts c.loop-next.next c.index-here.result.now (O.free 0) (omega arith) ∙ ap (λ t. type_of t.now) (sym c.index-here.ensures) in
    rw e at (all-at (IsOver (length c.args.unknowns.now)) (seen ts) c.loop-next.next (O.free 0) c.loop-next.invariant.over h)

pub loop-next-preserved : goal.loop-next-preserved
loop-next-preserved c =
    let ts = c.loop-next.types.items in
    let n : length (seen ts) ≡ length ts = length-map ts (λ t. type_of t.now) in
    let h : c.loop-next.next < length (seen ts) = omega arith in
    let e : get_or (seen ts) c.loop-next.next (O.free 0) ≡ type_of c.index-here.result.now.now = get_or-map (λ t. type_of t.now) ts c.loop-next.next c.index-here.result.now (O.free 0) (omega arith) ∙ ap (λ t. type_of t.now) (sym c.index-here.ensures) in
    rw (c.in_ok-push-2.ensures.items, c.in_ok-of.ensures) (interning-next c.args.nodes.now.items c.args.unknowns.now (type_of c.args.ty.now) c.loop-next.nodes.items (seen ts) (seen c.node_for.new.types.items) c.loop-next.next (c.len-base.result + vec_len c.loop-next.types) c.in_ok-node.node (type_of c.index-here.result.now.now) c.requires.inside c.loop-next.invariant h (sym e) (omega arith) c.in_ok-node.ensures)

pub loop-next-smaller : goal.loop-next-smaller
loop-next-smaller c =
    let ts = c.loop-next.types.items in
    let n : length (seen ts) ≡ length ts = length-map ts (λ t. type_of t.now) in
    let h : c.loop-next.next < length (seen ts) = omega arith in
    let e : get_or (seen ts) c.loop-next.next (O.free 0) ≡ type_of c.index-here.result.now.now = get_or-map (λ t. type_of t.now) ts c.loop-next.next c.index-here.result.now (O.free 0) (omega arith) ∙ ap (λ t. type_of t.now) (sym c.index-here.ensures) in
    let x : Expands (get_or (seen ts) c.loop-next.next (O.free 0)) c.args.unknowns.now (c.len-base.result + vec_len c.loop-next.types) c.in_ok-node.node (seen ts) (seen c.node_for.new.types.items) = rw e c.in_ok-node.ensures in
    interning-less (seen ts) (seen c.node_for.new.types.items) c.loop-next.next c.args.unknowns.now (c.len-base.result + vec_len c.loop-next.types) c.in_ok-node.node (O.free 0) h x

pub returns : goal.returns
returns c =
    let ts = c.loop-next.types.items in
    let n : length (seen ts) ≡ length ts = length-map ts (λ t. type_of t.now) in
    let m : c.in-Ok.first ≡ length c.args.nodes.now.items = omega arith in
    rw m (interning-last c.args.nodes.now.items c.args.unknowns.now (type_of c.args.ty.now) c.loop-next.nodes.items (seen ts) c.loop-next.next c.loop-next.invariant (omega arith))
