use Rattle.std.proofs.Common.{◌≡◌, ◌<◌, ℕ, false, take}
use Rattle.sml_client.specs.Positions.{is_stop, units}
use Rattle.sml_client.proofs.positions.reach.Given as goal

abbrev pub invariant-loop-index : goal.invariant-loop-index
invariant-loop-index l = (l.passed ≡ units l.encoding (take l.index l.line)) × ((k : ℕ) → k < l.index → is_stop l.encoding l.line l.units k ≡ false)
