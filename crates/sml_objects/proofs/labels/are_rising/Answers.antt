use Rattle.std.proofs.Common.{rules, ◌≡◌, false, true}
use Rattle.std.specs.Ordering.{is_lt}
use Rattle.sml_tree.specs.Views.{ident_of}
use Rattle.sml_objects.specs.Labels.{label_order}
use Rattle.sml_objects.proofs.RisingLabels.{steps-more, not-rising, all-steps, lower-less, not-lower}
use Rattle.sml_objects.proofs.labels.are_rising.Goals as goal

pub returns-then-not-is_below-clause-no : goal.returns-then-not-is_below-clause-no
returns-then-not-is_below-clause-no c = λ h.
    let x = c.index-list-index.result in
    let y = c.index-list-index-in-loop-index.result in
    let no : is_lt (label_order (ident_of x) (ident_of y)) ≡ false = search rules in
    not-rising c.args.list.now c.loop-index.index x y c.loop-index.auto.index (search rules) c.index-list-index.is c.index-list-index-in-loop-index.is (not-lower _ no)

pub loop-index-preserved : goal.loop-index-preserved
loop-index-preserved c =
    let x = c.index-list-index.result in
    let y = c.index-list-index-in-loop-index.result in
    let yes : is_lt (label_order (ident_of x) (ident_of y)) ≡ true = search rules in
    steps-more c.args.list.now c.loop-index.index x y c.loop-index.auto.index (search rules) c.index-list-index.is c.index-list-index-in-loop-index.is (lower-less _ yes)
    c.loop-index.invariant

pub returns-clause-yes : goal.returns-clause-yes
returns-clause-yes c = λ h. all-steps c.args.list.now c.loop-index.index (search rules) c.loop-index.invariant
