use Rattle.std.proofs.Common.{ap, ◌++◌, decimal}
use Rattle.sml_reply.specs.Replies.{refusal_text}
use Rattle.sml_texts.specs.Text.{fault_text}
use Rattle.sml_reply.proofs.Copies.{detail_same}
use Rattle.sml_reply.proofs.reply.RefusedReply.copy.Goals as goal

pub returns-clause-text : goal.returns-clause-text
unfolding refusal_text
returns-clause-text c =
    let r = c.args.self.now in
    ap (λ d. decimal r.number ++ fault_text (record { code = r.fault.code; place = r.fault.place; detail = d })) (detail_same _ _ c.in_ok-detail.ensures)
