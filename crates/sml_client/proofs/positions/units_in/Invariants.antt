use Rattle.std.proofs.Common.{◌≡◌, take}
use Rattle.sml_client.specs.Positions.{units}
use Rattle.sml_client.proofs.positions.units_in.Given as goal

abbrev pub invariant-loop-byte : goal.invariant-loop-byte
invariant-loop-byte l = l.passed ≡ units l.encoding (take l.byte-index l.bytes)
