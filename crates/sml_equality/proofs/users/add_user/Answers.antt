use Rattle.std.proofs.Common.{◌≡◌, ◌<◌, ◌++◌, ◌∷◌, [], length, get_or, set, ap, sym, ◌∙◌, refl, arith}
use Rattle.std.proofs.Math.ListN.{length-set}
use Rattle.std.proofs.lemmas.List.{take_all}
use Rattle.std.proofs.lemmas.List.Elements.{All-get_or}
use Rattle.sml_equality.specs.CodeUsers.{users_of}
use Rattle.sml_equality.proofs.Spreading.{row_at, user-sound, user-spares, one_more_added}
use Rattle.sml_equality.proofs.users.add_user.Goals as goal

pub loop-need-preserved : goal.loop-need-preserved
loop-need-preserved c =
    let us = c.args.users.now.items in
    let vs = c.loop-need.users.items in
    let is = c.args.needs.now in
    let k = c.loop-need.need-index in
    let i = get_or is k 0 in
    let w = c.push.new.self in
    let r = c.loop-need.invariant in
    let inside : i < length vs = let n = r.len in let h = All-get_or (λ i. i < length us) is k 0 c.loop-need-test.true c.requires.inside in omega (arith, n, h) in
    let pushed : w.items ≡ users_of vs i ++ c.args.user ∷ [] = c.in_ok-push.ensures.items ∙ ap (λ x. x ++ c.args.user ∷ []) (sym (row_at vs i c.index_mut.result.now inside c.index_mut.ensures.value)) in
    record {
      len = length-set vs i w ∙ r.len;
      sound = λ h s. user-sound vs (set vs i w) i c.args.user w inside refl pushed (length us) h (r.sound h s);
      spares = λ kept from. one_more_added kept from us vs c.args.user (set vs i w) is k i 0 c.loop-need-test.true refl (r.spares kept from) (user-spares vs (set vs i w) i c.args.user w inside refl pushed kept from);
    }

pub returns-clause-spares : goal.returns-clause-spares
returns-clause-spares c =
    let h = c.loop-need-test.false in
    rw (take_all c.loop-need.need-index c.args.needs.now (omega (arith, h))) at c.loop-need.invariant.spares
