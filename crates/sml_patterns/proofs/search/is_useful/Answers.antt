use Rattle.std.proofs.Common.{◌∙◌, sym}
use Rattle.sml_patterns.proofs.Work.{same_answer, less_work}
use Rattle.sml_patterns.proofs.search.is_useful.Goals as goal

pub loop-task-smaller : goal.loop-task-smaller
loop-task-smaller c =
    less_work c.loop-task.tasks.items c.pop.new.self.items c.push_tasks.new.tasks.items c.in-Some.task c.in-Some.ensures.items c.in_ok-push_tasks.ensures

pub loop-task-preserved : goal.loop-task-preserved
loop-task-preserved c =
    same_answer c.loop-task.tasks.items c.pop.new.self.items c.push_tasks.new.tasks.items c.in-Some.task c.in-Some.ensures.items (sym c.is_won.ensures ∙ c.if-is_won.false) c.in_ok-push_tasks.ensures ∙ c.loop-task.invariant
