use Rattle.std.proofs.Common.{◌≡◌}
use Rattle.sml_client.specs.Positions.{ends_in_file, line_starts}
use Rattle.sml_client.proofs.positions.feeds_in.Given as goal

abbrev pub invariant-loop-index : goal.invariant-loop-index
invariant-loop-index l = l.feeds.items ≡ line_starts (ends_in_file l.text) l.index
