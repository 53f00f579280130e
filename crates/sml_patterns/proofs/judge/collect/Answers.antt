use Rattle.std.proofs.Common.{rules, sym, subst}
use Rattle.sml_patterns.specs.CodeTasks.{warnings_of}
use Rattle.sml_patterns.specs.CodeColumns.{KnowsEach}
use Rattle.sml_patterns.proofs.Collecting.{next_plains, found_next, pushed}
use Rattle.sml_patterns.proofs.judge.collect.Goals as goal
use Rattle.sml_patterns.proofs.judge.collect.Goals.{then-not-branch+in_ok-push, else-not-branch}

pub loop-index-preserved : goal.loop-index-preserved
loop-index-preserved c =
    let inv = c.loop-index.invariant in
    let all = c.args.rules.now in
    let r = c.index-rules-index.result in
    record {
      found = found_next all c.loop-index.index r (search rules) (search rules) _ (warnings_of c.loop-index.found.items) (warnings_of c.if-not-branch.found.items) c.in_ok-escapes_above.field-0 (c.in_ok-escapes_above.ensures.yes inv.known) inv.found
          (elim c.if-not-branch.branch [ then-not-branch+in_ok-push w ↦ pushed c.loop-index.found.items c.if-not-branch.found.items w.finding_at.result r.place c.in_ok-escapes_above.field-0 (search rules) w.finding_at.ensures (search rules) | else-not-branch w ↦ search rules ]);
      known = subst (λ ps. KnowsEach ps c.escapes_above.new.table.columns.items) (sym (next_plains all c.loop-index.index r (search rules) (search rules))) (c.in_ok-escapes_above.ensures.knows inv.known);
    }
