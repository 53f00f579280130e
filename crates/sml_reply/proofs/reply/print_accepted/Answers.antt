use Rattle.std.proofs.Common.{◌∙◌, ◌++◌, codes, append-nil}
use Rattle.sml_reply.proofs.Sinks.{same_text}
use Rattle.sml_reply.proofs.reply.print_accepted.Goals as goal

pub returns : goal.returns
returns g c =
    let number = c.as_bytes.ensures.value ∙ c.format.ensures.text in
    let lines = append-nil c.lines.result.now ∙ c.lines.ensures in
    same_text _ _ _ _ _ _ _ (λ i. number i ++ (codes " ok\n" ++ lines i)) c.write_each.ensures
