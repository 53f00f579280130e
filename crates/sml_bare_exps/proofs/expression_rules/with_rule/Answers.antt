use Rattle.std.proofs.Common.{rules}
use Rattle.sml_tree.specs.Expressions.{rule}
use Rattle.sml_tree.specs.PatternViews.{pat_of}
use Rattle.sml_tree.specs.declared.expressions.Dec.TheFolds.{fold-roll-Rule}
use Rattle.sml_bare_exps.specs.ExpressionViews.{low_exp_of}
use Rattle.sml_bare_exps.proofs.Parts.{rule_pushed, rule_heights}
use Rattle.sml_bare_exps.proofs.expression_rules.with_rule.Goals as goal

pub returns : goal.returns
returns c = rule_pushed _ _ _ (rule c.args.place (pat_of c.args.pat.tree) (low_exp_of c.args.exp)) c.in_ok-push_tight.ensures (search (rules, fold-roll-Rule))

pub invariant_of-result-clause-measured : goal.invariant_of-result-clause-measured
invariant_of-result-clause-measured c =
    rule_heights _ _ c.args.place (pat_of c.args.pat.tree) (low_exp_of c.args.exp) _ _ _ _ _ (rule_pushed _ _ _ (rule c.args.place (pat_of c.args.pat.tree) (low_exp_of c.args.exp)) c.in_ok-push_tight.ensures (search (rules, fold-roll-Rule))) c.args.pat.measured c.args.exp.measured c.args.rules.measured c.max.ensures c.max-height.ensures
