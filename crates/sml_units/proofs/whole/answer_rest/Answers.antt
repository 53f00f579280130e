use Rattle.std.proofs.Common.{◌≡◌, ◌+◌, ◌++◌, [], ◌∷◌, length, ap, ◌∙◌, sym, append_assoc, arith}
use Rattle.std.proofs.lemmas.List.{length-append}
use Rattle.sml_units.proofs.Replying.{numbered_push}
use Rattle.sml_units.proofs.whole.answer_rest.Goals as goal

pub loop-dec-preserved : goal.loop-dec-preserved
loop-dec-preserved c =
    let v = c.loop-dec.invariant in
    let rs = c.loop-dec.replies in
    let old = c.args.replies.items in
    let r = c.in_ok-reply.reply in
    let size = ap length v.1 ∙ length-append old v.0 in
    let number = c.in_ok-reply.ensures ∙ c.in_ok-number.ensures ∙ (let a = c.len.ensures in let b = rs.ok.0 in omega (arith, a, b, size)) in (
      v.0 ++ r ∷ [],
      c.in_ok-push.ensures.items ∙ ap (λ l. l ++ r ∷ []) v.1 ∙ append_assoc old v.0 (r ∷ []),
      length-append v.0 (r ∷ []) ∙ ap (λ n. n + 1) v.2,
      numbered_push (length old + 1) v.0 r v.3 number,
    )
