use Rattle.std.proofs.Common.{◌≡◌, ◌++◌, drop}
use Rattle.sml_narrowing.specs.CodeTasks.{lines}
use Rattle.sml_patterns.specs.CodeTasks.{near, plains, rules_of}
use Rattle.sml_patterns.specs.CodeMatrix.{singles}
use Rattle.sml_narrowing.specs.Views.{plain_of}
use Rattle.sml_patterns.proofs.judge.near_rows.Given as goal

abbrev pub invariant-loop-rule : goal.invariant-loop-rule
invariant-loop-rule l =
    singles (near (plain_of l.pattern) (plains (rules_of l.rules))) ≡ lines l.rows.items ++ singles (near (plain_of l.pattern) (plains (rules_of (drop l.rule-index l.rules))))
