use Rattle.std.proofs.Common.{◌≡◌, ℕ, ◌+◌, map, sym, ◌∙◌, ap, arith}
use Rattle.sml_reach.specs.Events.{text_at}
use Rattle.sml_reach.specs.Fits.{fitted_of}
use Rattle.sml_flaws.specs.Flawed.{own_nodes}
use Rattle.sml_read.specs.declared.grammar.Node.TheVariants.{Inner}
use Rattle.sml_flaws.proofs.FirstFlaws.{left, split, none_of, leaf_on, passed_on, next_on}
use Rattle.sml_flaws.proofs.flawed.seek.Goals.{in-Leaf+else-first-tokens, in-Inner+then-begins_at+in_ok-flaw-in-Inner+else-is_some, in-Inner+else-begins_at}
use Rattle.sml_flaws.proofs.flawed.seek.Goals as goal

pub loop-i-preserved : goal.loop-i-preserved
loop-i-preserved c =
    let inv = c.loop-i.invariant in
    let text = text_at c.args.unit.now c.args.tokens.now in
    let nodes = c.args.nodes.now in
    let tokens = c.args.tokens.now in
    let fitted = map fitted_of c.args.fitted.now in
    let n = c.loop-i.first in
    let count = c.loop-i.count in
    let i = c.loop-i.i in
    elim c.match-nodes-i.branch [
      | in-Leaf+else-first-tokens w ↦ record {
        kept = inv.kept ∙ leaf_on text nodes tokens fitted n count i _ c.loop-i-test.true (omega (arith, w.if-first-tokens.false)) w.in-Leaf.is ∙ moved _ _ (sym w.first-is) (sym w.count-is);
        within = omega (arith, w.first-is, w.if-first-tokens.false);
        few = omega (arith, w.count-is, inv.few);
      }
      | in-Inner+then-begins_at+in_ok-flaw-in-Inner+else-is_some w ↦ record {
        kept = inv.kept ∙ next_on text nodes tokens fitted n count i w.in-Inner.rule w.own-nodes.result.now w.in_ok-flaw-in-Inner.flaw _ c.loop-i-test.true w.in-Inner.is (sym w.begins_at.ensures ∙ w.if-begins_at.true) (w.own-nodes.ensures ∙ ap own_nodes (split text nodes tokens fitted i (Inner w.in-Inner.rule) _ c.loop-i-test.true w.in-Inner.is)) w.in_ok-flaw-in-Inner.ensures (none_of _ (sym w.is_some.ensures ∙ w.if-is_some.false)) ∙ moved _ _ (sym w.first-is) (sym w.count-is);
        within = omega (arith, w.first-is, inv.within);
        few = omega (arith, w.count-is, inv.few);
      }
      | in-Inner+else-begins_at w ↦ record {
        kept = inv.kept ∙ passed_on text nodes tokens fitted n count i w.in-Inner.rule _ c.loop-i-test.true w.in-Inner.is (sym w.begins_at.ensures ∙ w.if-begins_at.false) ∙ moved _ _ (sym w.first-is) (sym w.count-is);
        within = omega (arith, w.first-is, inv.within);
        few = omega (arith, w.count-is, inv.few);
      }
    ]
  where
    moved : (m k : ℕ) → m ≡ c.match-nodes-i.first → k ≡ c.match-nodes-i.count → left (text_at c.args.unit.now c.args.tokens.now) c.args.nodes.now c.args.tokens.now (map fitted_of c.args.fitted.now) m k (c.loop-i.i + 1) ≡ left (text_at c.args.unit.now c.args.tokens.now) c.args.nodes.now c.args.tokens.now (map fitted_of c.args.fitted.now) c.match-nodes-i.first c.match-nodes-i.count (c.loop-i.i + 1)
    moved m k e f = ap (λ x. left (text_at c.args.unit.now c.args.tokens.now) c.args.nodes.now c.args.tokens.now (map fitted_of c.args.fitted.now) x k (c.loop-i.i + 1)) e ∙ ap (λ x. left (text_at c.args.unit.now c.args.tokens.now) c.args.nodes.now c.args.tokens.now (map fitted_of c.args.fitted.now) c.match-nodes-i.first x (c.loop-i.i + 1)) f
