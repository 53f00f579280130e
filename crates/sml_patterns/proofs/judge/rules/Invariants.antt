use Rattle.std.proofs.Common.{◌≡◌, ◌++◌, List, drop}
use Rattle.sml_patterns.specs.Warnings.{Rule, AreRules}
use Rattle.sml_patterns.specs.Views.{meanings}
use Rattle.sml_patterns.specs.CodeTasks.{rules_of}
use Rattle.sml_patterns.proofs.judge.rules.Given as goal

abbrev pub invariant-loop-written : goal.invariant-loop-written
invariant-loop-written l = (rs : List Rule) → AreRules (meanings l.names) l.patterns rs → (more : List Rule) × AreRules (meanings l.names) (drop l.written-index l.patterns) more × (rs ≡ rules_of l.rules.items ++ more)
