use Rattle.std.proofs.Common.{◌≡◌, take}
use Rattle.sml_objects.proofs.TypeViews.{parts_of}
use Rattle.sml_objects.proofs.comparisons.+same_type.Given as goal

abbrev pub invariant-same_types-loop-index : goal.invariant-same_types-loop-index
invariant-same_types-loop-index l = parts_of (take l.index l.ones) ≡ parts_of (take l.index l.others)
