use Rattle.sml_patterns.specs.CodeTasks.{problems}
use Rattle.sml_patterns.proofs.Work.{if_pushed}
use Rattle.sml_patterns.proofs.search.push_tasks.Goals as goal

pub returns-in-Below : goal.returns-in-Below
returns-in-Below c =
    if_pushed c.as_slice-rows.result.now c.args.task.now.rows.items c.as_slice-question.result.now c.args.task.now.question.items (problems c.args.tasks.now.items) (problems c.push_below.new.tasks.items) c.in-Below.count c.in_ok-count.field-0 c.as_slice-rows.ensures.value c.as_slice-question.ensures.value c.in-Below.is c.in_ok-count.ensures c.push_below.result c.push_below.ensures
