use Rattle.std.proofs.Common.{◌≡◌, ℕ, map}
use Rattle.std.specs.Map.Iter.{deref}
use Rattle.sml_types.proofs.sides.numbers_of.Given as goal

abbrev pub invariant-loop-number : goal.invariant-loop-number
invariant-loop-number l = l.numbers.items ≡ map (deref {X = ℕ}) l.yielded
