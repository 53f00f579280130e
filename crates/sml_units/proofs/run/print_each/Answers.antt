use Rattle.std.proofs.Common.{◌+◌, ap, subst, map, drop, arith}
use Rattle.std.proofs.lemmas.List.{take_all}
use Rattle.std.specs.Io.KnownBytes.{Appends}
use Rattle.sml_reply.specs.Sinks.{in_turn}
use Rattle.sml_reply.specs.Replies.{form_text}
use Rattle.sml_reply.proofs.Sinks.{goes_on, stops, prints_all}
use Rattle.sml_units.proofs.Written.{turn-more-at, turn-rest-at}
use Rattle.sml_units.proofs.run.print_each.Goals as goal

pub loop-reply-preserved : goal.loop-reply-preserved
loop-reply-preserved g c =
    goes_on _ _ _ _ _ _ _ _ _ _ _ c.loop-reply.invariant.0 c.loop-reply.invariant.1 c.in-Ok.ensures
    (turn-more-at (λ r. form_text r c.args.form) c.args.replies.now c.loop-reply.reply-index c.reply-item.result c.loop-reply-test.true c.reply-item.is)

pub returns-in-Err : goal.returns-in-Err
returns-in-Err g c =
    let xs = c.args.replies.now in
    let i = c.loop-reply.reply-index in
    stops _ _ _ _ _ _ _ _ _ _ _ (in_turn (map (λ r. form_text r c.args.form) (drop (i + 1) xs))) _ c.loop-reply.invariant.0 c.loop-reply.invariant.1 c.in-Err.ensures
    (turn-rest-at (λ r. form_text r c.args.form) xs i c.reply-item.result c.loop-reply-test.true c.reply-item.is)

pub returns : goal.returns
returns g c =
    let xs = c.args.replies.now in
    let i = c.loop-reply.reply-index in
    prints_all _ _ _ _ _ _ _ (subst (Appends _ _) (ap (λ l. in_turn (map (λ r. form_text r c.args.form) l)) (take_all i xs (let h = c.loop-reply-test.false in omega (arith, h)))) c.loop-reply.invariant.0) c.loop-reply.invariant.1
