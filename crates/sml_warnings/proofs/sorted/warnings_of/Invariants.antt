use Rattle.std.proofs.Common.{◌≡◌, map, take}
use Rattle.sml_warnings.specs.Sorting.{warning_of}
use Rattle.sml_warnings.proofs.sorted.warnings_of.Given as goal

abbrev pub invariant-loop-key : goal.invariant-loop-key
invariant-loop-key l = l.warnings.items ≡ map warning_of (take l.key-index l.keys)
