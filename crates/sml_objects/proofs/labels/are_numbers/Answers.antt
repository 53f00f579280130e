use Rattle.std.proofs.Common.{rules}
use Rattle.sml_objects.proofs.LabelPlaces.{number-at, number-more}
use Rattle.sml_objects.proofs.labels.are_numbers.Goals as goal

pub returns-then-not-is_decimal-clause-no : goal.returns-then-not-is_decimal-clause-no
returns-then-not-is_decimal-clause-no c = λ h e.
    c.if-not-is_decimal.ensures.no (search rules)
    (number-at c.args.list.now c.loop-index.index c.index-list-index.result (search rules) c.index-list-index.is e)

pub loop-index-preserved : goal.loop-index-preserved
loop-index-preserved c =
    number-more c.args.list.now c.loop-index.index c.index-list-index.result (search rules) c.index-list-index.is
    (c.if-not-is_decimal.ensures.yes (search rules)) c.loop-index.invariant
