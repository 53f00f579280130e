-- What was gathered from the events so far, and those to come.
use Rattle.std.proofs.Common.{◌≤◌, ◌+◌, map, reverse, length}
use Rattle.sml_reach.specs.Events.{seen, text_at}
use Rattle.sml_reach.specs.Reach.{state_of}
use Rattle.sml_reach.proofs.Reaching.{IsReached}
use Rattle.sml_reach.proofs.reach.gather.Given as goal

abbrev pub invariant-loop-event : goal.invariant-loop-event
invariant-loop-event l = record {
  reached : IsReached (text_at l.unit l.tokens) (map seen (reverse l.fn.events.items)) (state_of l.reach) (map seen (reverse l.events.items)) l.gathered;
  few : l.reach.count + length l.events.items ≤ length l.fn.events.items;
}

abbrev pub decreases-loop-event : goal.decreases-loop-event
decreases-loop-event l = length l.events.items
