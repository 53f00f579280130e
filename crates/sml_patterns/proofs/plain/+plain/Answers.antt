use Rattle.std.proofs.Common.{rules, ap}
use Rattle.sml_patterns.specs.Views.{meanings}
use Rattle.sml_patterns.proofs.Trees.{in_row, in_tuple, in_applied, fields_go, tuple_goes, fields_end, tuple_ends}
use Rattle.sml_patterns.proofs.plain.+plain.Goals as goal

pub plain-returns-in-Row : goal.plain-returns-in-Row
plain-returns-in-Row t c =
    in_row (meanings c.args.names.now) c.args.pat.now c.in-Row.field-0 c.in-Row.fields c.in-Row.field-2 c.deref.result.now c.in-Row.is c.deref.ensures.value c.plain_row.result c.plain_row.ensures

pub plain-returns-in-Tuple : goal.plain-returns-in-Tuple
plain-returns-in-Tuple t c =
    in_tuple (meanings c.args.names.now) c.args.pat.now c.in-Tuple.field-0 c.in-Tuple.pats c.deref-in-Tuple.result.now c.in-Tuple.is c.deref-in-Tuple.ensures.value c.plain_tuple.result c.plain_tuple.ensures

pub plain-returns-in_ok-argument-in-Applied : goal.plain-returns-in_ok-argument-in-Applied
plain-returns-in_ok-argument-in-Applied t c =
    in_applied (meanings c.args.names.now) c.args.pat.now c.in-Applied.field-0 c.in-Applied.long c.in-Applied.pat c.deref-in-Applied.result.now c.in_ok-argument-in-Applied.argument c.in-Applied.is (search rules) c.in_ok-argument-in-Applied.ensures c.named-in-Applied.result c.named-in-Applied.ensures

pub plain_row-loop-field-preserved : goal.plain_row-loop-field-preserved
plain_row-loop-field-preserved t c =
    fields_go (meanings c.args.names.now) c.args.fields.now c.loop-field.field-index c.field-item.result c.loop-field.labels.items c.push.new.self.items c.loop-field.patterns.items c.push-in-loop-field.new.self.items c.in_ok-clone.field-0 c.in_ok-pattern.pattern c.loop-field-test.true c.field-item.is c.loop-field.invariant (ap (λ v. v.items) c.in_ok-clone.ensures.cases) c.in_ok-pattern.ensures (search rules) (search rules)

pub plain_row-returns : goal.plain_row-returns
plain_row-returns t c =
    fields_end (meanings c.args.names.now) c.args.fields.now c.loop-field.field-index c.loop-field.labels c.loop-field.patterns (search rules) c.loop-field.invariant

pub plain_tuple-loop-index-preserved : goal.plain_tuple-loop-index-preserved
plain_tuple-loop-index-preserved t c =
    tuple_goes (meanings c.args.names.now) c.args.pats.now c.loop-index.index c.index-pats-index.result c.loop-index.labels.items c.push.new.self.items c.loop-index.fields.items c.push-in-loop-index.new.self.items c.in_ok-decimal_label.field-0 c.in_ok-pattern.pattern c.loop-index-test.true c.index-pats-index.is c.loop-index.invariant c.in_ok-decimal_label.ensures c.in_ok-pattern.ensures (search rules) (search rules)

pub plain_tuple-returns : goal.plain_tuple-returns
plain_tuple-returns t c =
    tuple_ends (meanings c.args.names.now) c.args.pats.now c.loop-index.index c.loop-index.labels c.loop-index.fields (search rules) c.loop-index.invariant
