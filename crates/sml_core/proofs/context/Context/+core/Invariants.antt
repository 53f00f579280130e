use Rattle.std.proofs.Common.{◌≡◌, Ok, drop, map, take}
use Rattle.std.specs.Option.{option_map}
use Rattle.sml_tree.specs.ExpressionViews.{bind_of, binds_of, exp_of, field_of, fields_of as exp_fields_of, rule_of, rules_of}
use Rattle.sml_objects.specs.Views.{type_of}
use Rattle.sml_types.specs.Rows.{AreRanked, fields_of}
use Rattle.sml_core.specs.Answered.{ReadsFields, Row}
use Rattle.sml_core.proofs.Binds.{AreBindsRead}
use Rattle.sml_core.proofs.Matches.{AreRead}
use Rattle.sml_core.proofs.Tuples.{ReadsAll}
use Rattle.sml_core.proofs.context.Context.+core.Given as goal

abbrev pub invariant-tuple-loop-exp : goal.invariant-tuple-loop-exp
invariant-tuple-loop-exp l = ReadsAll l.fn.self (map exp_of (take l.exp-index l.exps)) l.self l.types.items

abbrev pub invariant-fields-loop-field : goal.invariant-fields-loop-field
invariant-fields-loop-field l = record {
  ranked : AreRanked l.row.entries;
  reads : ReadsFields (λ (r : Row). r) l.fn.self (exp_fields_of (map field_of (take l.field-index l.fields))) l.self (Ok (fields_of (λ t. type_of t.value) l.row.entries));
}

abbrev pub invariant-rules-loop-rule : goal.invariant-rules-loop-rule
invariant-rules-loop-rule l =
    AreRead l.fn.self (rules_of (map rule_of l.fn.rules)) (option_map (λ t. type_of t.value) l.first) (rules_of (map rule_of (drop l.rule-index l.rules))) l.self

abbrev pub invariant-binds-loop-bind : goal.invariant-binds-loop-bind
invariant-binds-loop-bind l = record {
  reads : AreBindsRead l.fn.self l.fn.declaration (binds_of (map bind_of l.fn.binds)) (binds_of (map bind_of (drop l.bind-index l.binds))) l.self l.declaration;
  rest : l.declaration ≡ record l.fn.declaration { variables = l.declaration.variables; expansive = l.declaration.expansive };
  kind : l.declaration.variables.is_recursive ≡ l.fn.declaration.variables.is_recursive;
}
