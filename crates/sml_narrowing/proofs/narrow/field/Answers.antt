use Rattle.std.proofs.Common.{rules, sym, ◌∙◌}
use Rattle.sml_tree.specs.Views.{ident_of}
use Rattle.sml_narrowing.proofs.Rows.{field_ends, field_at, field_on}
use Rattle.sml_narrowing.proofs.narrow.field.Goals as goal

pub returns-then-index-fields : goal.returns-then-index-fields
returns-then-index-fields c =
    c.requires ∙ sym (c.loop-index.invariant ∙ field_ends (ident_of c.args.label.now) c.args.labels.now c.args.fields.now c.loop-index.index (search rules))

pub returns-then-is_same : goal.returns-then-is_same
returns-then-is_same c =
    sym (c.loop-index.invariant ∙ field_at (ident_of c.args.label.now) c.args.labels.now c.args.fields.now c.loop-index.index c.index-labels-index.result c.index-fields-index.result (search rules) c.index-labels-index.is (search rules) c.index-fields-index.is (search rules))

pub loop-index-preserved : goal.loop-index-preserved
loop-index-preserved c =
    c.loop-index.invariant ∙ field_on (ident_of c.args.label.now) c.args.labels.now c.args.fields.now c.loop-index.index c.index-labels-index.result (search rules) c.index-labels-index.is (search rules) (search rules)
