use Rattle.std.proofs.Common.{◌≡◌, map, ◌∷◌}
use Rattle.sml_tree.specs.ExpressionViews.{rule_of, rules_of}
use Rattle.sml_tree.specs.Clauses.{clause_rules, clause_of}
use Rattle.sml_derived.proofs.functions.clause_rules.Given as goal

abbrev pub invariant-loop-clause : goal.invariant-loop-clause
invariant-loop-clause l = rules_of (map rule_of l.rules.items) ≡ clause_rules (clause_of l.fn.first ∷ map clause_of l.yielded)
