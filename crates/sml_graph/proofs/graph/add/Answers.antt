use Rattle.std.proofs.Common.{arith}
use Rattle.sml_objects.specs.Views.{type_of}
use Rattle.sml_graph.specs.Interned.{Interns}
use Rattle.sml_graph.specs.CodeRanks.{HasRank}
use Rattle.sml_graph.proofs.Wholeness.{ordered-more, closed-more, fit-more, ranked-more}
use Rattle.sml_graph.proofs.graph.add.Goals as goal

pub returns-clause-whole : goal.returns-clause-whole
returns-clause-whole c u w =
    let ns = c.args.graph.now.nodes.items in
    let us = c.args.unknowns.now in
    let t = type_of c.args.ty.now in
    let f = c.in_ok-fill.ensures in
    let x : Interns ns us t c.intern.new.nodes.items c.in_ok-at.at = c.in_ok-at.ensures in
    let rank : HasRank c.intern.new.nodes.items = ranked-more ns us t c.intern.new.nodes.items c.in_ok-at.at x w.rank in
    let n = c.args.graph.now.limits in
    let m = c.fill.new.graph.limits in
    record {
      full = f.full (omega (arith, w.full.orders, x.len));
      sound = rw f.nodes x.sound;
      rank = rw f.nodes rank;
      ordered = rw f.nodes (ordered-more ns c.intern.new.nodes.items c.args.graph.now.orders.items c.fill.new.graph.orders.items w.full.orders x.before f.orders w.ordered);
      closed = rw f.nodes (closed-more ns c.intern.new.nodes.items n m w.full.limits x.before f.limits w.closed);
      fit = λ l. rw f.nodes (fit-more l u ns c.intern.new.nodes.items n m w.full.limits x.before f.limits (w.fit l));
    }
