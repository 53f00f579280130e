use Rattle.std.proofs.Common.{rules}
use Rattle.sml_tree.specs.Expressions.{field}
use Rattle.sml_tree.specs.TypeViews.{name_of}
use Rattle.sml_tree.specs.declared.expressions.Dec.TheFolds.{fold-roll-ExpField}
use Rattle.sml_bare_exps.specs.ExpressionViews.{low_exp_of}
use Rattle.sml_bare_exps.proofs.Parts.{field_pushed, field_heights}
use Rattle.sml_bare_exps.proofs.atom_rules.with_field.Goals as goal

pub returns : goal.returns
returns c = field_pushed _ _ _ (field (name_of c.args.label) (low_exp_of c.args.exp)) c.in_ok-push.ensures.items (search (rules, fold-roll-ExpField))

pub invariant_of-result-clause-measured : goal.invariant_of-result-clause-measured
invariant_of-result-clause-measured c =
    field_heights _ _ (name_of c.args.label) (low_exp_of c.args.exp) _ _ _ (field_pushed _ _ _ (field (name_of c.args.label) (low_exp_of c.args.exp)) c.in_ok-push.ensures.items (search (rules, fold-roll-ExpField))) c.args.exp.measured c.args.fields.measured c.max-height.ensures
