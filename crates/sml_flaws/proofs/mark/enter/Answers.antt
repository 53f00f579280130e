use Rattle.std.proofs.Common.{◌≡◌, ◌+◌, [], ◌++◌, rules, length, replicate, reverse, sym, ap, ◌∙◌}
use Rattle.sml_flaws.specs.Marks.{parts_of}
use Rattle.sml_flaws.specs.CodeContexts.{contexts_in}
use Rattle.sml_flaws.proofs.Marking.{plain_parts}
use Rattle.sml_flaws.proofs.mark.enter.Goals as goal

pub returns-in-Nothing : goal.returns-in-Nothing
returns-in-Nothing c =
    let runs = c.args.runs.now in
    let here = runs.here in
    let others = contexts_in (reverse runs.after.items) in
    let none : c.roles_of-roles.result.now ≡ [] = search rules in
    ap (λ symbols. replicate (here.count + length symbols) here.context ++ others) c.backwards-count.ensures
    ∙ plain_parts c.args.number c.args.token here.context c.in-Inner.rule here.count others (sym c.entry_of-entry.ensures ∙ c.in-Nothing.is) (sym c.roles_of-roles.ensures ∙ none)
    ∙ ap (λ node. parts_of c.args.number c.args.token here.context node ++ (replicate here.count here.context ++ others)) (sym c.in-Inner.is)
