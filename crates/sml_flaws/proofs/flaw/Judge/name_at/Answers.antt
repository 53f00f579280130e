use Rattle.std.proofs.Common.{Some, ap, sym, ◌∙◌}
use Rattle.sml_flaws.specs.Known.{atom_at}
use Rattle.sml_flaws.specs.Flaws.{position, name_by}
use Rattle.sml_flaws.proofs.flaw.Judge.name_at.Goals as goal

pub returns-in-Some-Prefix : goal.returns-in-Some-Prefix
returns-in-Some-Prefix c = λ fits before f k. c.atom_at.ensures _ before k ∙ ap (λ how. name_by before c.args.sequence (Some how)) (sym c.in-Some-Prefix.field-0-is) ∙ ap (name_by before c.args.sequence) (c.in-Some-Prefix.ensures fits f)

pub returns-in-Some-Infix : goal.returns-in-Some-Infix
returns-in-Some-Infix c = λ fits before f k. c.atom_at-in-Some-Infix.ensures _ before k ∙ ap (λ how. name_by before c.args.sequence (Some how)) (sym c.in-Some-Infix.field-0-is) ∙ ap (name_by before c.args.sequence) (c.in-Some-Infix.ensures fits f)

pub returns-in-Some-Bracketed : goal.returns-in-Some-Bracketed
returns-in-Some-Bracketed c = λ fits before f k.
    c.atom_at-in-Some-Bracketed.ensures _ before k
    ∙ ap (λ n. atom_at before (position n 1)) c.saturating_add.ensures
    ∙ ap (λ how. name_by before c.args.sequence (Some how)) (sym c.in-Some-Bracketed.field-0-is)
    ∙ ap (name_by before c.args.sequence) (c.in-Some-Bracketed.ensures fits f)
