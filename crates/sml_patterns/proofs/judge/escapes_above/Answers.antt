use Rattle.std.proofs.Common.{rules}
use Rattle.sml_narrowing.specs.CodeTasks.{lines}
use Rattle.sml_patterns.specs.CodeTasks.{plains, rules_of}
use Rattle.sml_narrowing.specs.Views.{plain_of}
use Rattle.sml_patterns.proofs.Picking.{escapes_picked, near_found}
use Rattle.sml_patterns.proofs.judge.escapes_above.Goals as goal

pub returns-in_ok-rows-in-Some-clause-yes : goal.returns-in_ok-rows-in-Some-clause-yes
returns-in_ok-rows-in-Some-clause-yes c = λ known.
    let p = plain_of c.args.pattern.now in
    let above = plains (rules_of c.args.above.now) in
    escapes_picked p above c.in-Some.indices.items (lines c.in_ok-rows-in-Some.rows.items) c.escapes_rows.result (near_found p above c.in_ok-found.found c.in-Some.indices c.in-Some.is (c.in_ok-found.ensures above known)) (search rules) c.escapes_rows.ensures
