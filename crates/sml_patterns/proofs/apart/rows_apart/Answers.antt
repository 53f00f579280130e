use Rattle.std.proofs.Common.{rules, ◌||◌, ◌+◌, ap, sym, ◌∙◌, map}
use Rattle.sml_tree.specs.Views.{ident_of}
use Rattle.sml_narrowing.specs.Plain.{Empty}
use Rattle.sml_narrowing.specs.Views.{row_on, plain_of}
use Rattle.sml_patterns.specs.CodeTasks.{rows_apart}
use Rattle.sml_narrowing.proofs.Rows.{row_from}
use Rattle.sml_patterns.proofs.Rows.{apart_ends, apart_here}
use Rattle.sml_patterns.proofs.apart.rows_apart.Goals as goal

pub returns-then-index-fields : goal.returns-then-index-fields
returns-then-index-fields c =
    let row = row_on (map ident_of c.args.labels.now) (map plain_of c.args.fields.now) Empty in
    let other = row_on (map ident_of c.args.others.now) (map plain_of c.args.other_fields.now) Empty in
    sym (c.loop-index.invariant ∙ apart_ends c.args.labels.now c.args.fields.now c.loop-index.index row other (search rules))

pub returns-then-outer_apart : goal.returns-then-outer_apart
returns-then-outer_apart c =
    let row = row_on (map ident_of c.args.labels.now) (map plain_of c.args.fields.now) Empty in
    let other = row_on (map ident_of c.args.others.now) (map plain_of c.args.other_fields.now) Empty in
    let rest = rows_apart (row_from c.args.labels.now c.args.fields.now (c.loop-index.index + 1)) row other in
    sym (c.loop-index.invariant
    ∙ apart_here c.args.labels.now c.args.fields.now c.loop-index.index c.index-labels-index.result row other (plain_of c.field-own.result.now) (plain_of c.field-other.result.now) c.outer_apart.result (search rules) c.index-labels-index.is (search rules) c.field-own.ensures c.field-other.ensures c.outer_apart.ensures
    ∙ ap (λ b. b || rest) c.if-outer_apart.true)

pub loop-index-preserved : goal.loop-index-preserved
loop-index-preserved c =
    let row = row_on (map ident_of c.args.labels.now) (map plain_of c.args.fields.now) Empty in
    let other = row_on (map ident_of c.args.others.now) (map plain_of c.args.other_fields.now) Empty in
    let rest = rows_apart (row_from c.args.labels.now c.args.fields.now (c.loop-index.index + 1)) row other in
    c.loop-index.invariant
    ∙ apart_here c.args.labels.now c.args.fields.now c.loop-index.index c.index-labels-index.result row other (plain_of c.field-own.result.now) (plain_of c.field-other.result.now) c.outer_apart.result (search rules) c.index-labels-index.is (search rules) c.field-own.ensures c.field-other.ensures c.outer_apart.ensures
    ∙ ap (λ b. b || rest) c.if-outer_apart.false
