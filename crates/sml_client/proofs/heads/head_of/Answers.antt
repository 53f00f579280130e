use Rattle.std.proofs.Common.{sym, ◌∙◌, subst}
use Rattle.sml_client.specs.Heads.{HasText, IsHeadOf}
use Rattle.sml_client.proofs.Lines.{head_ends, is_none, is_some, so_far_more, told_next}
use Rattle.sml_client.proofs.heads.head_of.Goals as goal

pub returns-then-is_empty : goal.returns-then-is_empty
returns-then-is_empty c =
    let none = is_none c.without_return-text.result.now (sym c.is_empty.ensures ∙ c.if-is_empty.true) in
    let text = subst (HasText c.in-Some.line.now) none c.without_return-text.ensures in
    subst (IsHeadOf c.args.bytes.now) (sym c.ended.ensures)
    (head_ends c.args.bytes.now c.lines.rest.now c.in-Some.line.now c.in-Some.others.now c.lines.length c.lines.is_first _ c.lines.invariant c.in-Some.ensures.0 text c.saturating_sub.ensures)

pub lines-preserved : goal.lines-preserved
lines-preserved c =
    let some = is_some c.without_return-text.result.now (sym c.is_empty.ensures ∙ c.if-is_empty.false) in
    so_far_more c.args.bytes.now c.lines.rest.now c.in-Some.line.now c.in-Some.others.now c.lines.length c.told-length.result c.lines.is_first c.lines.invariant c.in-Some.ensures.0
    (record { one = c.in-Some.ensures.1; text = c.without_return-text.result.now; has_text = c.without_return-text.ensures; some = some })
    (told_next c.in-Some.line.now c.without_return-text.result.now c.lines.length c.told-length.result c.without_return-text.ensures c.told-length.ensures)
