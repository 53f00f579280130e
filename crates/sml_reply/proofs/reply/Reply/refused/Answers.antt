use Rattle.std.proofs.Common.{refl}
use Rattle.sml_reply.specs.Replies.{reply_text, refusal_text}
use Rattle.sml_texts.specs.Text.{text}
use Rattle.sml_reply.proofs.reply.Reply.refused.Goals as goal

pub returns-clause-text : goal.returns-clause-text
unfolding reply_text refusal_text text
returns-clause-text c = refl
