use Rattle.std.proofs.Common.{ap, sym, ◌∙◌}
use Rattle.sml_tree.specs.Height.{counted}
use Rattle.sml_tree.proofs.HeightLists.{exps_on, fields_on, rules_on, decs_on, binds_on, of_two}
use Rattle.sml_tree.proofs.HeightParts.{field_height-parts, rule_height-parts, bind_height-parts}
use Rattle.sml_tree.proofs.heights.+exp_heights.Goals as goal

pub height_of_exps-loop-exp-preserved : goal.height_of_exps-loop-exp-preserved
height_of_exps-loop-exp-preserved t c =
    exps_on c.args.exps.now c.loop-exp.exp-index c.exp-item.result c.height_of_exp.result c.loop-exp.most c.max-most.result c.loop-exp-test.true c.exp-item.is c.height_of_exp.ensures c.loop-exp.invariant c.max-most.ensures

pub height_of_fields-loop-field-preserved : goal.height_of_fields-loop-field-preserved
height_of_fields-loop-field-preserved t c =
    fields_on c.args.fields.now c.loop-field.field-index c.field-item.result c.height_of_exp.result c.loop-field.most c.max-most.result c.loop-field-test.true c.field-item.is (c.height_of_exp.ensures ∙ ap counted (sym (field_height-parts c.field-item.result))) c.loop-field.invariant c.max-most.ensures

pub height_of_rules-loop-rule-preserved : goal.height_of_rules-loop-rule-preserved
height_of_rules-loop-rule-preserved t c =
    rules_on c.args.rules.now c.loop-rule.rule-index c.rule-item.result c.max.result c.loop-rule.most c.max-most.result c.loop-rule-test.true c.rule-item.is (of_two c.height_of_pat.result c.height_of_exp.result c.max.result _ _ c.height_of_pat.ensures c.height_of_exp.ensures c.max.ensures ∙ ap counted (sym (rule_height-parts c.rule-item.result))) c.loop-rule.invariant c.max-most.ensures

pub height_of_decs-loop-dec-preserved : goal.height_of_decs-loop-dec-preserved
height_of_decs-loop-dec-preserved t c =
    decs_on c.args.decs.now c.loop-dec.dec-index c.dec-item.result c.height_of_dec.result c.loop-dec.most c.max-most.result c.loop-dec-test.true c.dec-item.is c.height_of_dec.ensures c.loop-dec.invariant c.max-most.ensures

pub height_of_binds-loop-bind-preserved : goal.height_of_binds-loop-bind-preserved
height_of_binds-loop-bind-preserved t c =
    binds_on c.args.binds.now c.loop-bind.bind-index c.bind-item.result c.max.result c.loop-bind.most c.max-most.result c.loop-bind-test.true c.bind-item.is (of_two c.height_of_pat.result c.height_of_exp.result c.max.result _ _ c.height_of_pat.ensures c.height_of_exp.ensures c.max.ensures ∙ ap counted (sym (bind_height-parts c.bind-item.result))) c.loop-bind.invariant c.max-most.ensures
