use Rattle.std.proofs.Common.{[]}
use Rattle.sml_patterns.specs.CodeColumns.{KnowsEach}
use Rattle.sml_patterns.proofs.table.label_columns.Given as goal

abbrev pub invariant-loop-index : goal.invariant-loop-index
invariant-loop-index l = KnowsEach [] l.columns.items
