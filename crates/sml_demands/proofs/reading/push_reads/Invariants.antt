use Rattle.std.proofs.Common.{◌≡◌, ◌++◌, map, take}
use Rattle.sml_demands.specs.declared.reading.Task.TheVariants.{Read}
use Rattle.sml_demands.proofs.reading.push_reads.Given as goal

abbrev pub invariant-loop-kid : goal.invariant-loop-kid
invariant-loop-kid l = l.tasks.items ≡ l.initial.tasks.items ++ map Read (take l.kid-index l.kids)
