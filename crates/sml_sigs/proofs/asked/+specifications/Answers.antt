use Rattle.std.proofs.Common.{sym, ◌∙◌}
use Rattle.sml_sigs.specs.Asked.{how_much}
use Rattle.sml_sigs.proofs.Asking.{desc-asks, specs-on, str_descs-on}
use Rattle.sml_sigs.proofs.asked.+specifications.Goals as goal

pub asked_by_specs-loop-spec-preserved : goal.asked_by_specs-loop-spec-preserved
asked_by_specs-loop-spec-preserved t c =
    specs-on c.args.specs.now c.loop-spec.spec-index c.spec-item.result (how_much c.asked_by.result) (how_much c.loop-spec.asked) (how_much c.more-asked.result) c.loop-spec-test.true c.spec-item.is c.asked_by.ensures c.loop-spec.invariant c.more-asked.ensures

pub asked_by_structures-loop-desc-preserved : goal.asked_by_structures-loop-desc-preserved
asked_by_structures-loop-desc-preserved t c =
    str_descs-on c.args.descs.now c.loop-desc.desc-index c.desc-item.result (how_much c.asked_by_sig.result) (how_much c.loop-desc.asked) (how_much c.more-asked.result) c.loop-desc-test.true c.desc-item.is (c.asked_by_sig.ensures ∙ sym (desc-asks c.desc-item.result)) c.loop-desc.invariant c.more-asked.ensures
