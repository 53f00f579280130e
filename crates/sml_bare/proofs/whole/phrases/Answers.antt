use Rattle.std.proofs.Common.{◌-◌, ◌≤◌, drop, get_or, length, refl, sym, ap, ◌∙◌, arith}
use Rattle.sml_read.specs.declared.grammar.Node.TheVariants.{Leaf}
use Rattle.sml_read.specs.Extents.{starts_of}
use Rattle.sml_read.proofs.Extents.{start_on, tokens_on}
use Rattle.sml_phrases.specs.PhraseViews.{seen}
use Rattle.sml_bare.specs.Derivations.{are_low}
use Rattle.sml_bare.specs.SourceViews.{source_of}
use Rattle.sml_reach.proofs.Parting.{one_before, length-starts_of}
use Rattle.sml_bare.proofs.Making.{made_on, low_on, high_on, start_within}
use Rattle.sml_bare.proofs.whole.phrases.Goals as goal

pub at_node-requires : goal.at_node-requires
at_node-requires c =
    let nodes = c.args.nodes.now in
    let i = c.loop-i.i in
    let w = c.loop-i.invariant.within in
    let t = c.loop-i-test.true in
    let n = c.first_token-token.result in
    let r = c.loop-i.auto.i in
    let a = one_before nodes i Leaf (get_or nodes (i - 1) Leaf) t w refl in
    let at = tokens_on nodes i (get_or nodes (i - 1) Leaf) c.loop-i.token n a c.loop-i.invariant.token c.first_token-token.ensures in
    let e = start_on nodes i n n t w at in
    let f = start_within 0 nodes (i - 1) n (omega (arith, w, t)) in
    omega (arith, e, f, w, t, r)

pub loop-i-preserved : goal.loop-i-preserved
loop-i-preserved c =
    let s = source_of c.args.source.now in
    let nodes = c.args.nodes.now in
    let starts = starts_of 0 nodes in
    let i = c.loop-i.i in
    let inv = c.loop-i.invariant in
    let t = c.loop-i-test.true in
    let w = inv.within in
    let l = length-starts_of 0 nodes in
    let v : i ≤ length starts = omega (arith, l, w) in
    let n = c.first_token-token.result in
    let node = get_or nodes (i - 1) Leaf in
    let a = one_before nodes i Leaf node t w refl in
    let at = tokens_on nodes i node c.loop-i.token n a inv.token c.first_token-token.ensures in
    let b = one_before starts i n n t v (start_on nodes i n n t w at) in
    record {
      token = at;
      made = made_on s _ (drop i nodes) _ (drop i starts) node n _ (seen c.loop-i.stack) a b c.in-Ok.ensures.made inv.made;
      low = low_on s _ (drop i nodes) _ (drop i starts) node n (seen c.loop-i.stack) a b c.in-Ok.ensures.within inv.made inv.low;
      within = omega (arith, w);
    }

pub returns-in-Err-clause-high : goal.returns-in-Err-clause-high
returns-in-Err-clause-high c e =
    let s = source_of c.args.source.now in
    let nodes = c.args.nodes.now in
    let starts = starts_of 0 nodes in
    let i = c.loop-i.i in
    let inv = c.loop-i.invariant in
    let t = c.loop-i-test.true in
    let w = inv.within in
    let l = length-starts_of 0 nodes in
    let v : i ≤ length starts = omega (arith, l, w) in
    let n = c.first_token-token.result in
    let node = get_or nodes (i - 1) Leaf in
    let a = one_before nodes i Leaf node t w refl in
    let at = tokens_on nodes i node c.loop-i.token n a inv.token c.first_token-token.ensures in
    let b = one_before starts i n n t v (start_on nodes i n n t w at) in
    high_on s nodes starts (i - 1) (drop i nodes) (drop i starts) node n (seen c.loop-i.stack) a b (c.in-Err.ensures.high e) inv.made
