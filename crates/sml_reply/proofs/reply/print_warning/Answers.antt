use Rattle.std.proofs.Common.{◌∙◌, ◌++◌, codes}
use Rattle.sml_texts.specs.Text.{warning_text}
use Rattle.sml_reply.proofs.Sinks.{same_text}
use Rattle.sml_reply.proofs.reply.print_warning.Goals as goal

pub returns : goal.returns
unfolding warning_text
returns g c =
    let code = c.as_bytes.ensures.value ∙ c.code_text.ensures in
    let line = c.as_bytes-2.ensures.value ∙ c.format.ensures.text in
    let column = c.as_bytes-3.ensures.value ∙ c.format-2.ensures.text in
    let meaning = c.as_bytes-4.ensures.value ∙ c.meaning.ensures in
    same_text _ _ _ _ _ _ _
    (λ i. codes "  warning " ++ (code i ++ (codes " " ++ (line i ++ (codes "." ++ (column i ++ (codes " " ++ (meaning i ++ codes "\n"))))))))
    c.write_each.ensures
