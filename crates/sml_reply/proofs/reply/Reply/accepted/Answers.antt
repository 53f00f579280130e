use Rattle.std.proofs.Common.{List, ℕ, ap, ◌∙◌, ◌++◌, [], codes, decimal, append-nil}
use Rattle.sml_objects.specs.Initial.{naming}
use Rattle.sml_objects.specs.Views.{env_of}
use Rattle.sml_reply.specs.Replies.{reply_text}
use Rattle.sml_texts.specs.Text.{text, environment_text, spell, show_env}
use Rattle.sml_texts.specs.Spelling.{and_pieces}
use Rattle.sml_reply.proofs.reply.Reply.accepted.Goals as goal

pub returns-clause-text : goal.returns-clause-text
unfolding reply_text text environment_text and_pieces
returns-clause-text c =
    let E = env_of c.args.basis.now.env in
    let new = c.new-lines.ensures in
    let lines = ap (λ t. t.0) c.in_ok-push_env.ensures ∙ (λ i. (new i).0 ++ spell naming (new i).1 (show_env [] E)) in
    append-nil (decimal c.args.number ++ (codes " ok\n" ++ c.push_env.new.self.text.items))
    ∙ ap (λ t. decimal c.args.number ++ (codes " ok\n" ++ t)) lines
