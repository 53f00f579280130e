use Rattle.std.proofs.Common.{map, reverse, arith}
use Rattle.sml_reach.specs.Events.{seen, text_at}
use Rattle.sml_reach.specs.Reach.{state_of}
use Rattle.sml_reach.proofs.Reaching.{reached_next, reached_last}
use Rattle.sml_reach.proofs.Keeping.{comes_of_all}
use Rattle.sml_reach.proofs.reach.gather.Goals as goal

pub loop-event-preserved : goal.loop-event-preserved
loop-event-preserved c =
    let inv = c.loop-event.invariant in
    let f = c.in-Some.ensures.fewer in
    let n = c.in_ok-outcome.ensures.count in
    let w = inv.few in
    record {
      reached = reached_next (text_at c.args.unit.now c.args.tokens.now) (map seen (reverse c.args.events.items)) (state_of c.loop-event.reach) (state_of c.happen.new.self) (seen c.in-Some.event) (map seen (reverse c.loop-event.events.items)) (map seen (reverse c.next.new.events.items)) c.loop-event.gathered c.add.new.self _ inv.reached c.in-Some.ensures.event c.in_ok-outcome.ensures.happens c.in_ok-add.ensures;
      few = omega (arith, f, n, w);
    }

pub returns : goal.returns
returns c = λ scoped all e u.
    comes_of_all (text_at c.args.unit.now c.args.tokens.now) (map seen (reverse c.args.events.items)) scoped all c.loop-event.gathered e u
    (reached_last (text_at c.args.unit.now c.args.tokens.now) (map seen (reverse c.args.events.items)) (state_of c.loop-event.reach) (map seen (reverse c.loop-event.events.items)) c.loop-event.gathered c.loop-event.invariant.reached c.in_default.ensures.event)
