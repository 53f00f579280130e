-- What is left decides, since nothing before it is expansive.
use Rattle.std.proofs.Common.{◌≡◌, map, drop}
use Rattle.sml_tree.specs.ExpressionViews.{exp_of, exps_of, field_of, fields_of}
use Rattle.sml_objects.specs.Initial.{Name}
use Rattle.sml_core_rules.specs.Objects.{Env}
use Rattle.sml_core_rules.specs.Closing.{is_any_expansive, is_any_field_expansive}
use Rattle.sml_closing.specs.Statuses.{TellsOf}
use Rattle.sml_closing.proofs.expansive.+expansive.Given as goal

abbrev pub invariant-is_any_expansive-loop-exp : goal.invariant-is_any_expansive-loop-exp
invariant-is_any_expansive-loop-exp t l = record {
  left : (C : Env Name) → TellsOf (t.S.Statuses.says l.statuses) C → is_any_expansive C (exps_of (map exp_of l.exps)) ≡ is_any_expansive C (exps_of (map exp_of (drop l.exp-index l.exps)));
}

abbrev pub invariant-is_any_field_expansive-loop-field : goal.invariant-is_any_field_expansive-loop-field
invariant-is_any_field_expansive-loop-field t l = record {
  left : (C : Env Name) → TellsOf (t.S.Statuses.says l.statuses) C → is_any_field_expansive C (fields_of (map field_of l.fields)) ≡ is_any_field_expansive C (fields_of (map field_of (drop l.field-index l.fields)));
}
