use Rattle.std.proofs.Common.{◌≡◌, ◌-◌, ◌≤◌, map, reverse, drop, get_or, length, refl, ap, ◌∙◌, subst, arith}
use Rattle.sml_read.specs.declared.grammar.Node.TheVariants.{Leaf}
use Rattle.sml_read.specs.Extents.{starts_of}
use Rattle.sml_read.proofs.Extents.{start_on, tokens_on}
use Rattle.sml_reach.specs.Founds.{found_of}
use Rattle.sml_reach.specs.Events.{seen, text_at, events_of}
use Rattle.sml_reach.specs.CodeKept.{all_kept}
use Rattle.sml_reach.proofs.Parting.{one_before, length-starts_of, founds_on}
use Rattle.sml_reach.proofs.Keeping.{events_on}
use Rattle.sml_reach.proofs.event.events.Goals as goal

pub loop-i-preserved : goal.loop-i-preserved
loop-i-preserved c =
    let nodes = c.args.nodes.now in
    let starts = starts_of 0 nodes in
    let i = c.loop-i.i in
    let inv = c.loop-i.invariant in
    let t = c.loop-i-test.true in
    let w = inv.within in
    let l = length-starts_of 0 nodes in
    let v : i ≤ length starts = omega (arith, l, w) in
    let n = c.first_token-token.result in
    let node = get_or nodes (i - 1) Leaf in
    let a = one_before nodes i Leaf node t w refl in
    let at = tokens_on nodes i node c.loop-i.token n a inv.token c.first_token-token.ensures in
    let b = one_before starts i n n t v (start_on nodes i n n t w at) in
    let old = map found_of (reverse c.loop-i.founds.items) in
    record {
      token = at;
      founds = founds_on (text_at c.args.unit.now c.args.tokens.now) (drop (i - 1) nodes) (drop i nodes) (drop (i - 1) starts) (drop i starts) node n (map found_of (reverse c.at_node.new.founds.items)) old a b c.in_ok-at_node.ensures.founds inv.founds;
      events = events_on c.has_directive-scoped.result c.args.unit.now c.args.tokens.now (drop (i - 1) nodes) (drop i nodes) (drop (i - 1) starts) (drop i starts) node n (map seen (reverse c.at_node.new.events.items)) (map seen (reverse c.loop-i.events.items)) old a b c.in_ok-at_node.ensures.events inv.founds inv.events;
      within = omega (arith, w);
    }

pub returns : goal.returns
returns c =
    let nodes = c.args.nodes.now in
    let all : c.loop-i.i ≡ 0 = omega (arith, c.loop-i-test.false) in
    subst (λ i. map seen (reverse c.loop-i.events.items) ≡ all_kept c.has_directive-scoped.result (events_of c.args.unit.now c.args.tokens.now (drop i nodes) (drop i (starts_of 0 nodes)))) all c.loop-i.invariant.events
    ∙ ap (λ scoped. all_kept scoped (events_of c.args.unit.now c.args.tokens.now nodes (starts_of 0 nodes))) c.has_directive-scoped.ensures
