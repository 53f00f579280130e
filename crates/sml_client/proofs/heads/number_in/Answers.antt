use Rattle.std.proofs.Common.{◌≡◌, ◌+◌, ◌-◌, ◌*◌, ap, ◌∙◌, get_or, take, arith}
use Rattle.std.proofs.lemmas.List.{take_more}
use Rattle.sml_client.specs.Lengths.{number_after}
use Rattle.sml_client.proofs.Parts.{number_more}
use Rattle.sml_client.proofs.heads.number_in.Goals as goal

pub loop-digit-preserved : goal.loop-digit-preserved
loop-digit-preserved c =
    let digits = c.args.digits.now in
    let i = c.loop-digit.digit-index in
    let all : number_after 0 (take (i + 1) digits) ≡ number_after 0 (take i digits) * 10 + (get_or digits i 0 - 48) =
    ap (number_after 0) (take_more digits i 0 c.loop-digit-test.true) ∙ number_more 0 (take i digits) (get_or digits i 0) in
    let so_far = c.loop-digit.invariant in
    let sub = c.saturating_sub.ensures in
    let same = c.from-digit.ensures in
    let mul = c.saturating_mul.ensures in
    let add = c.saturating_add-value.ensures in
    omega (arith, all, so_far, sub, same, mul, add)
