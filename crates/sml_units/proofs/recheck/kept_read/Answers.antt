use Rattle.std.proofs.Common.{◌∷◌, [], ◌++◌, take, ap, sym, subst, ◌∙◌}
use Rattle.std.proofs.lemmas.List.{take_more}
use Rattle.sml_units.specs.CodeUnits.{AreCopies}
use Rattle.sml_units.proofs.Complete.{copies_push}
use Rattle.sml_units.proofs.recheck.kept_read.Goals as goal

pub loop-reply-preserved : goal.loop-reply-preserved
loop-reply-preserved c =
    let i = c.loop-reply.reply-index in
    let xs = c.args.before.replies.now in
    let r = c.reply-item.result in
    let more = take_more xs i r c.loop-reply-test.true ∙ ap (λ y. take i xs ++ y ∷ []) (sym c.reply-item.is) in
    subst (λ l. AreCopies l c.push.new.self.items) (sym more)
    (subst (AreCopies (take i xs ++ r ∷ [])) (sym c.in_ok-push.ensures.items)
    (copies_push (take i xs) c.loop-reply.replies.items r c.in_ok-copy.field-0 c.loop-reply.invariant
    (record { text = c.in_ok-copy.ensures.text; warnings = c.in_ok-copy.ensures.warnings; accepting = c.in_ok-copy.ensures.accepted; number = c.in_ok-copy.ensures.number })))
