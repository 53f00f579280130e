use Rattle.std.proofs.Common.{◌≡◌}
use Rattle.sml_patterns.proofs.table.Table.among.Given as goal

abbrev pub invariant-loop-column : goal.invariant-loop-column
invariant-loop-column l = l.column-items ≡ l.self.columns.items
