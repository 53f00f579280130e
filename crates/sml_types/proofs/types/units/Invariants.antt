use Rattle.std.proofs.Common.{◌≡◌, length}
use Rattle.sml_types.proofs.types.units.Given as goal

abbrev pub invariant-loop : goal.invariant-loop
invariant-loop l = length l.types.items ≡ l.counter
