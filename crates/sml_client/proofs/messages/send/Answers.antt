use Rattle.std.proofs.Common.{OnOk, ◌≡◌, ◌++◌, ap, map, subst, ◌∙◌}
use Rattle.sml_reply.specs.Sinks.{Prints, in_turn}
use Rattle.sml_client.specs.Answers.{message}
use Rattle.sml_client.proofs.messages.send.Goals as goal

pub returns-in-Ok : goal.returns-in-Ok
unfolding Prints
returns-in-Ok c =
    let text = in_turn (map (λ p. p.now) c.args.parts.now) in
    let same : c.bytes.result.now ≡ text = c.bytes.ensures ∙ c.in-Ok.ensures.0 ∙ ap (λ l. l ++ text) c.new-body.ensures.bytes in
    subst (λ body. OnOk c.write.result (c.write.new.out.bytes.items ≡ c.args.out.now.bytes.items ++ message body)) same c.write.ensures
