use Rattle.std.proofs.Common.{rules, ◌∙◌}
use Rattle.sml_narrowing.proofs.Rows.{labels_end, label_on}
use Rattle.sml_narrowing.proofs.narrow.add_labels.Goals as goal

pub returns-then-index-fields : goal.returns-then-index-fields
returns-then-index-fields c =
    labels_end c.args.labels.now.items c.loop-index.labels.items c.args.own.now c.args.fields.now c.loop-index.index (search rules) c.loop-index.invariant

pub loop-index-preserved : goal.loop-index-preserved
loop-index-preserved c =
    c.loop-index.invariant ∙ label_on c.loop-index.labels.items c.add_label.new.labels.items c.args.own.now c.args.fields.now c.loop-index.index c.index-own-index.result (search rules) c.index-own-index.is (search rules) c.in_ok-add_label.ensures
