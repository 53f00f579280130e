-- What the phrases after here are, and the events there.
use Rattle.std.proofs.Common.{◌≡◌, ◌+◌, map, reverse, drop, length, ◌≤◌}
use Rattle.sml_read.specs.Extents.{starts_of, tokens_in}
use Rattle.sml_reach.specs.Founds.{found_of}
use Rattle.sml_reach.specs.Events.{seen, text_at, founds_of, events_of}
use Rattle.sml_reach.specs.CodeKept.{all_kept}
use Rattle.sml_reach.proofs.event.events.Given as goal

abbrev pub invariant-loop-i : goal.invariant-loop-i
invariant-loop-i l = record {
  token : l.token + tokens_in (drop l.i l.nodes) ≡ tokens_in l.nodes;
  founds : map found_of (reverse l.founds.items) ≡ founds_of (text_at l.unit l.tokens) (drop l.i l.nodes) (drop l.i (starts_of 0 l.nodes));
  events : map seen (reverse l.events.items) ≡ all_kept l.scoped (events_of l.unit l.tokens (drop l.i l.nodes) (drop l.i (starts_of 0 l.nodes)));
  within : l.i ≤ length l.nodes;
}
