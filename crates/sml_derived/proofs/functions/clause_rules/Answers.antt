use Rattle.sml_tree.specs.ExpressionViews.{rule_of}
use Rattle.sml_tree.specs.Clauses.{clause_of}
use Rattle.sml_derived.proofs.Lists.{next_clause}
use Rattle.sml_derived.proofs.functions.clause_rules.Goals as goal

pub loop-clause-preserved : goal.loop-clause-preserved
loop-clause-preserved c =
    next_clause rule_of clause_of c.loop-clause.rules.items c.push-in-loop-clause.new.self.items c.in_ok-clause_rule-2.field-0 (clause_of c.args.first) c.loop-clause.yielded c.in-Some.clause c.in_ok-push-2.ensures.items c.in_ok-clause_rule-2.ensures c.loop-clause.invariant
