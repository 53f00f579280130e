use Rattle.std.proofs.Common.{◌≡◌, ◌+◌, ap, ◌∙◌, arith, length-append, length}
use Rattle.sml_graph.specs.Limits.{no_limit, limit_at}
use Rattle.sml_graph.specs.CodeRanks.{no_order, order_at}
use Rattle.sml_graph.proofs.Wholeness.{get_or-push}
use Rattle.sml_graph.proofs.graph.fill.Goals as goal

pub loop-graph-preserved : goal.loop-graph-preserved
loop-graph-preserved c =
    let i = c.loop-graph.invariant in
    let g = c.loop-graph.graph in
    let a : length c.push_none.new.self ≡ length g.limits + 1 = ap length c.in_ok-push_none.ensures ∙ simp length-append in
    let b : length c.push.new.self.items ≡ length g.orders.items + 1 = ap length c.in_ok-push.ensures.items ∙ simp length-append in
    record {
      nodes = i.nodes;
      limits_len = omega (arith, a, b, i.limits_len);
      limits = λ x. ap (λ ls. limit_at ls x) c.in_ok-push_none.ensures ∙ (get_or-push g.limits no_limit x ∙ i.limits x);
      orders = λ x. ap (λ os. order_at os x) c.in_ok-push.ensures.items ∙ (get_or-push g.orders.items no_order x ∙ i.orders x);
      bottom = record {
        from = λ x. rw (c.in_ok-push.ensures.items, get_or-push g.orders.items no_order x) (i.bottom.from x);
        positive = i.bottom.positive;
      };
      within = λ h. omega (arith, b);
    }
