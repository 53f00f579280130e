use Rattle.std.proofs.Common.{rules, ◌≡◌, length, ap, sym, ◌∙◌, append-nil, Some, None}
use Rattle.sml_narrowing.specs.CodeMatrix.{AtConstructor, narrow}
use Rattle.sml_narrowing.specs.CodeTasks.{line, lines, kept_line}
use Rattle.sml_patterns.specs.CodeTasks.{problems}
use Rattle.sml_patterns.proofs.Work.{problems_last}
use Rattle.sml_patterns.proofs.Grouping.{next_task}
use Rattle.sml_patterns.proofs.search.push_below.Goals as goal

pub loop-rows-preserved-in_ok-push-2 : goal.loop-rows-preserved-in_ok-push-2
loop-rows-preserved-in_ok-push-2 c =
    let len : c.len.result ≡ length c.pop.new.self.items = search rules in
    let next = next_task (lines c.args.rows.now) (line c.args.question.now) _ (problems c.loop-rows.tasks.items) (problems c.push.new.self.items) c.loop-rows.groups.items c.pop.new.self.items c.in-Some.rows (Some (line c.in-Some-2.question.items))
    c.in-Some.ensures.items c.loop-rows.invariant.tasks c.loop-rows.invariant.groups
    (ap (λ m. narrow (AtConstructor m) (line c.args.question.now)) (sym len) ∙ c.in_ok-question.ensures ∙ ap kept_line c.in-Some-2.is)
    (ap problems c.in_ok-push.ensures.items ∙ problems_last c.loop-rows.tasks.items (record { rows = c.in-Some.rows; question = c.in-Some-2.question })) in
    record { tasks = next.0; groups = next.1 }

pub loop-rows-preserved : goal.loop-rows-preserved
loop-rows-preserved c =
    let len : c.len.result ≡ length c.pop.new.self.items = search rules in
    let next = next_task (lines c.args.rows.now) (line c.args.question.now) _ (problems c.loop-rows.tasks.items) (problems c.loop-rows.tasks.items) c.loop-rows.groups.items c.pop.new.self.items c.in-Some.rows None
    c.in-Some.ensures.items c.loop-rows.invariant.tasks c.loop-rows.invariant.groups
    (ap (λ m. narrow (AtConstructor m) (line c.args.question.now)) (sym len) ∙ c.in_ok-question.ensures ∙ ap kept_line c.in_default-2.is)
    (sym (append-nil (problems c.loop-rows.tasks.items))) in
    record { tasks = next.0; groups = next.1 }
