use Rattle.std.proofs.Common.{◌≡◌, ◌++◌, List, Option, drop}
use Rattle.sml_patterns.specs.CodeColumns.{Key, key_in, grouped, Holds}
use Rattle.sml_patterns.proofs.Columns.{gathered}
use Rattle.sml_patterns.proofs.column.Column.candidates.Given as goal

abbrev pub invariant-loop-group : goal.invariant-loop-group
invariant-loop-group l =
    (keys : List (Option Key)) → Holds keys l.self
    → gathered (grouped 0 0 keys (key_in l.key)) l.self.others.items 0 ≡ l.found.items ++ gathered (grouped 0 0 keys (key_in l.key)) (drop l.group l.self.others.items) l.group
