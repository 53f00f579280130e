-- What is left to gather, after what was.
use Rattle.std.proofs.Common.{◌≡◌, map, drop}
use Rattle.sml_tree.specs.ExpressionViews.{exp_of, exps_of, field_of, fields_of, rule_of, rules_of}
use Rattle.sml_core_rules.specs.Closing.{exps_variables, field_variables, rules_variables}
use Rattle.sml_closing.specs.Gathered.{ids_of, with_all}
use Rattle.sml_closing.proofs.unguarded.+unguarded_exps.Given as goal

abbrev pub invariant-in_exps-loop-exp : goal.invariant-in_exps-loop-exp
invariant-in_exps-loop-exp l = record {
  left : with_all (ids_of l.found.keys) (exps_variables (exps_of (map exp_of (drop l.exp-index l.exps)))) ≡ with_all (ids_of l.fn.found.keys) (exps_variables (exps_of (map exp_of (l.exps))));
}

abbrev pub invariant-in_fields-loop-field : goal.invariant-in_fields-loop-field
invariant-in_fields-loop-field l = record {
  left : with_all (ids_of l.found.keys) (field_variables (fields_of (map field_of (drop l.field-index l.fields)))) ≡ with_all (ids_of l.fn.found.keys) (field_variables (fields_of (map field_of (l.fields))));
}

abbrev pub invariant-in_rules-loop-rule : goal.invariant-in_rules-loop-rule
invariant-in_rules-loop-rule l = record {
  left : with_all (ids_of l.found.keys) (rules_variables (rules_of (map rule_of (drop l.rule-index l.rules)))) ≡ with_all (ids_of l.fn.found.keys) (rules_variables (rules_of (map rule_of (l.rules))));
}
