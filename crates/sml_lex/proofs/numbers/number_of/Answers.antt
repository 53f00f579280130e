use Rattle.std.proofs.Common.{◌+◌, ◌*◌, drop, get_or, sym, ap, ◌∙◌, arith}
use Rattle.std.proofs.lemmas.List.{length-drop}
use Rattle.sml_lex.specs.Numbers.{digit_value}
use Rattle.sml_lex.proofs.DigitValues.{number_after, after_none, after_all, after_more, after_at}
use Rattle.sml_lex.proofs.numbers.number_of.Goals as goal

pub loop-byte-init : goal.loop-byte-init
loop-byte-init c = after_none c.args.base c.args.digits.now

pub returns-in-None : goal.returns-in-None
returns-in-None c =
    let on = c.loop-byte.invariant ∙ after_at c.args.base c.loop-byte.value 0 c.args.digits.now c.loop-byte.byte-index c.loop-byte-test.true in
    let more = after_more c.args.base (c.loop-byte.value * c.args.base + digit_value (get_or c.args.digits.now c.loop-byte.byte-index 0)) (drop (c.loop-byte.byte-index + 1) c.args.digits.now) c.requires in
    let large = c.in-None.ensures in
    omega (arith, on, more, large)

pub loop-byte-preserved : goal.loop-byte-preserved
loop-byte-preserved c = c.loop-byte.invariant ∙ after_at c.args.base c.loop-byte.value 0 c.args.digits.now c.loop-byte.byte-index c.loop-byte-test.true ∙ ap (λ v. number_after c.args.base v (drop (c.loop-byte.byte-index + 1) c.args.digits.now)) (sym c.in-Some.ensures)

pub returns : goal.returns
returns c =
    let l = length-drop c.loop-byte.byte-index c.args.digits.now in
    let end = c.loop-byte-test.false in
    sym (c.loop-byte.invariant ∙ after_all c.args.base c.loop-byte.value (drop c.loop-byte.byte-index c.args.digits.now) (omega (arith, l, end)))
