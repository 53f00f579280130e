use Rattle.std.proofs.Common.{rules, ap, sym, ◌∙◌, ◌++◌}
use Rattle.sml_narrowing.specs.CodeTasks.{line, lines}
use Rattle.sml_narrowing.proofs.Grouping.{at_index, one_added, past_added, addition}
use Rattle.sml_narrowing.proofs.constructors.add_at.Goals as goal

pub returns-in_ok-add_narrowed-clause-added : goal.returns-in_ok-add_narrowed-clause-added
returns-in_ok-add_narrowed-clause-added c = λ n p f k h.
    let row = line c.args.row.now in
    let gs = c.args.groups.now.items in
    one_added gs c.args.number n p c.add_narrowed.new.group row (search rules) f
    (c.in_ok-add_narrowed.ensures ∙ ap (λ rows. rows ++ addition row c.args.number) (ap (λ g. lines g.items) c.index_mut.ensures.value ∙ sym (at_index gs c.args.number c.index_mut.result.now (search rules)))) k

pub returns-else-index-len-clause-added : goal.returns-else-index-len-clause-added
returns-else-index-len-clause-added c = λ n p f.
    past_added c.args.groups.now.items c.args.number n p (line c.args.row.now) (search rules) f
