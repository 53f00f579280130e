use Rattle.std.proofs.Common.{ap, sym, ◌∙◌, ◌++◌, [], cond}
use Rattle.sml_reply.specs.Replies.{form_text, warnings_text}
use Rattle.sml_reply.proofs.reply.Reply.copy.Goals as goal

pub returns-in_ok-copy-in-Accepted-clause-text : goal.returns-in_ok-copy-in-Accepted-clause-text
unfolding form_text
returns-in_ok-copy-in-Accepted-clause-text c =
    let copied = c.in_ok-copy-in-Accepted.ensures in
    λ form. (λ i. copied.text form.version i ++ cond form.warnings (warnings_text (copied.warnings i)) []) ∙ sym (ap (λ r. form_text r form) c.in-Accepted.is)

pub returns-in_ok-copy-in-Refused-clause-text : goal.returns-in_ok-copy-in-Refused-clause-text
unfolding form_text
returns-in_ok-copy-in-Refused-clause-text c =
    λ form. c.in_ok-copy-in-Refused.ensures.text ∙ sym (ap (λ r. form_text r form) c.in-Refused.is)
