use Rattle.std.proofs.Common.{◌≡◌, map, take}
use Rattle.sml_tree.specs.Height.{counted}
use Rattle.sml_tree.specs.Heights.{exps_height, fields_height, rules_height, decs_height, binds_height}
use Rattle.sml_tree.specs.ExpressionViews.{exps_of, exp_of, fields_of, field_of, rules_of, rule_of, decs_of, dec_of, binds_of, bind_of}
use Rattle.sml_tree.proofs.heights.+exp_heights.Given as goal

abbrev pub invariant-height_of_exps-loop-exp : goal.invariant-height_of_exps-loop-exp
invariant-height_of_exps-loop-exp l = l.most ≡ counted (exps_height (exps_of (map exp_of (take l.exp-index l.exps))))

abbrev pub invariant-height_of_fields-loop-field : goal.invariant-height_of_fields-loop-field
invariant-height_of_fields-loop-field l = l.most ≡ counted (fields_height (fields_of (map field_of (take l.field-index l.fields))))

abbrev pub invariant-height_of_rules-loop-rule : goal.invariant-height_of_rules-loop-rule
invariant-height_of_rules-loop-rule l = l.most ≡ counted (rules_height (rules_of (map rule_of (take l.rule-index l.rules))))

abbrev pub invariant-height_of_decs-loop-dec : goal.invariant-height_of_decs-loop-dec
invariant-height_of_decs-loop-dec l = l.most ≡ counted (decs_height (decs_of (map dec_of (take l.dec-index l.decs))))

abbrev pub invariant-height_of_binds-loop-bind : goal.invariant-height_of_binds-loop-bind
invariant-height_of_binds-loop-bind l = l.most ≡ counted (binds_height (binds_of (map bind_of (take l.bind-index l.binds))))
