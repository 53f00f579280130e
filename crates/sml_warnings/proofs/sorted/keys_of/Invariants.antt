use Rattle.std.proofs.Common.{◌≡◌, map, take}
use Rattle.sml_warnings.specs.Sorting.{AreOfMatches, warning_of}
use Rattle.sml_warnings.proofs.sorted.keys_of.Given as goal

abbrev pub invariant-loop-warning : goal.invariant-loop-warning
invariant-loop-warning l = AreOfMatches l.warnings → map warning_of l.keys.items ≡ take l.warning-index l.warnings
