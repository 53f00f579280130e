use Rattle.std.proofs.Common.{refl, ap, ◌∙◌, take, sym, arith, append-nil}
use Rattle.std.proofs.lemmas.List.{take_all}
use Rattle.sml_units.specs.Written.{replies_of, summary_of}
use Rattle.sml_units.proofs.Written.{summary-next, replies-next}
use Rattle.sml_units.proofs.run.counts.Goals as goal

pub loop-unit-init : goal.loop-unit-init
unfolding summary_of
loop-unit-init c = refl

pub loop-reply-init : goal.loop-reply-init
loop-reply-init c = c.loop-unit.invariant ∙ ap summary_of (sym (append-nil (replies_of (take c.loop-unit.unit-index c.args.units.now))))

pub loop-reply-preserved : goal.loop-reply-preserved
loop-reply-preserved c =
    summary-next (replies_of (take c.loop-unit.unit-index c.args.units.now)) c.as_slice-reply-items.result.now c.loop-reply.reply-index c.reply-item.result _ _ c.loop-reply-test.true c.reply-item.is
    c.loop-reply.invariant c.counted-summary.ensures.accepted c.counted-summary.ensures.refused c.counted-summary.ensures.warnings

pub loop-unit-preserved : goal.loop-unit-preserved
loop-unit-preserved c =
    c.loop-reply.invariant
    ∙ ap summary_of (replies-next c.args.units.now c.loop-unit.unit-index c.unit-item.result c.as_slice-reply-items.result.now c.loop-reply.reply-index c.loop-unit-test.true c.unit-item.is c.as_slice-reply-items.ensures.value c.loop-reply-test.false)

pub returns : goal.returns
returns c = c.loop-unit.invariant ∙ ap (λ us. summary_of (replies_of us)) (take_all c.loop-unit.unit-index c.args.units.now (let h = c.loop-unit-test.false in omega (arith, h)))
