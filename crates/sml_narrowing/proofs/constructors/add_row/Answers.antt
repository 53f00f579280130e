use Rattle.std.proofs.Common.{rules, ap, sym, ◌∙◌, ◌++◌}
use Rattle.sml_narrowing.specs.CodeTasks.{line, lines}
use Rattle.sml_narrowing.proofs.Grouping.{at_index, next_added, addition}
use Rattle.sml_narrowing.proofs.constructors.add_row.Goals as goal

pub loop-index-preserved : goal.loop-index-preserved
loop-index-preserved c =
    let row = line c.args.row.now in
    let gs = c.loop-index.groups.items in
    let i = c.loop-index.index in
    let next = next_added c.args.groups.now.items gs i c.add_narrowed.new.group row (search rules) c.loop-index.invariant.added c.loop-index.invariant.left
    ((c.in_ok-add_narrowed-in-None).ensures ∙ ap (λ rows. rows ++ addition row i) (ap (λ g. lines g.items) c.index_mut.ensures.value ∙ sym (at_index gs i c.index_mut.result.now (search rules)))) in
    record { len = search rules; added = next.0; left = next.1 }
