use Rattle.std.proofs.Common.{ap, sym, ◌∙◌, ◌++◌, [], cond, append-nil}
use Rattle.sml_reply.specs.Replies.{form_text, version_text, warnings_text}
use Rattle.sml_reply.proofs.Sinks.{same_text, prints_then, prints_stop}
use Rattle.sml_reply.proofs.reply.print.Goals as goal

pub returns-then-form : goal.returns-then-form
unfolding form_text
returns-then-form g c =
    let r = c.in-Accepted.reply in
    prints_then _ _ _ _ _ _ _ _ _ _ _ c.in-Ok.ensures c.print_warnings.ensures
    (ap (λ y. form_text y c.args.form) c.in-Accepted.is ∙ ap (λ b. version_text r c.args.form.version ++ cond b (warnings_text r.warnings.items) []) c.if-form.true
    ∙ (λ i. version_text r c.args.form.version ++ warnings_text (sym c.as_slice.ensures.value i)))

pub returns-else-form : goal.returns-else-form
unfolding form_text
returns-else-form g c =
    let r = c.in-Accepted.reply in
    same_text _ _ _ _ _ _ _
    (sym (ap (λ y. form_text y c.args.form) c.in-Accepted.is ∙ ap (λ b. version_text r c.args.form.version ++ cond b (warnings_text r.warnings.items) []) c.if-form.false
    ∙ append-nil (version_text r c.args.form.version)))
    c.in-Ok.ensures

pub returns-in-Err : goal.returns-in-Err
unfolding form_text
returns-in-Err g c =
    let r = c.in-Accepted.reply in
    prints_stop _ _ _ _ _ _ _ _ (cond c.args.form.warnings (warnings_text r.warnings.items) []) _ c.in-Err.ensures
    (ap (λ y. form_text y c.args.form) c.in-Accepted.is)

pub returns-in-Refused : goal.returns-in-Refused
unfolding form_text
returns-in-Refused g c = same_text _ _ _ _ _ _ _ (sym (ap (λ y. form_text y c.args.form) c.in-Refused.is)) c.print_refused.ensures
