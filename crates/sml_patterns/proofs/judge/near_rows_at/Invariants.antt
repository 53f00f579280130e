use Rattle.std.proofs.Common.{◌≡◌, ◌++◌, drop}
use Rattle.sml_narrowing.specs.CodeTasks.{lines}
use Rattle.sml_patterns.specs.CodeTasks.{near, plains, rules_of}
use Rattle.sml_patterns.specs.CodeColumns.{picked}
use Rattle.sml_patterns.specs.CodeMatrix.{singles}
use Rattle.sml_narrowing.specs.Views.{plain_of}
use Rattle.sml_patterns.proofs.judge.near_rows_at.Given as goal

abbrev pub invariant-loop-index : goal.invariant-loop-index
invariant-loop-index l =
    singles (near (plain_of l.pattern) (picked (plains (rules_of l.rules)) l.indices)) ≡ lines l.rows.items ++ singles (near (plain_of l.pattern) (picked (plains (rules_of l.rules)) (drop l.index-index l.indices)))
