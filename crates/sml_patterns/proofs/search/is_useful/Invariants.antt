use Rattle.std.proofs.Common.{◌≡◌}
use Rattle.sml_narrowing.specs.CodeTasks.{line, lines}
use Rattle.sml_patterns.specs.CodeTasks.{problems}
use Rattle.sml_patterns.specs.CodeMatrix.{is_useful}
use Rattle.sml_patterns.proofs.Work.{answer_any, total}
use Rattle.sml_patterns.proofs.search.is_useful.Given as goal

abbrev pub invariant-loop-task : goal.invariant-loop-task
invariant-loop-task l = answer_any (problems l.tasks.items) ≡ is_useful (lines l.fn.rows.items) (line l.fn.question.items)

abbrev pub decreases-loop-task : goal.decreases-loop-task
decreases-loop-task l = total (problems l.tasks.items)
