use Rattle.std.proofs.Common.{◌≡◌}
use Rattle.sml_client.specs.Positions.{ends_for_client, line_starts}
use Rattle.sml_client.proofs.positions.starts_in.Given as goal

abbrev pub invariant-loop-index : goal.invariant-loop-index
invariant-loop-index l = l.starts.items ≡ line_starts (ends_for_client l.text) l.index
