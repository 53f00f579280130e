use Rattle.std.proofs.Common.{rules}
use Rattle.sml_objects.proofs.RisingLabels.{same-at, same-more}
use Rattle.sml_objects.proofs.labels.same_idents.Goals as goal

pub returns-then-not-is_same-clause-no : goal.returns-then-not-is_same-clause-no
returns-then-not-is_same-clause-no c = λ h e.
    c.if-not-is_same.ensures.no (search rules)
    (same-at c.args.ones.now c.args.others.now c.loop-index.index c.index-ones-index.result c.index-others-index.result (search rules) (search rules) c.index-ones-index.is c.index-others-index.is e)

pub loop-index-preserved : goal.loop-index-preserved
loop-index-preserved c =
    same-more c.args.ones.now c.args.others.now c.loop-index.index c.index-ones-index.result c.index-others-index.result (search rules) (search rules)
    c.index-ones-index.is c.index-others-index.is (c.if-not-is_same.ensures.yes (search rules)) c.loop-index.invariant
