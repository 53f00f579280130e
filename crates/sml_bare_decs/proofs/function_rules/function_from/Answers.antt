use Rattle.std.proofs.Common.{ap, map, reverse, arith}
use Rattle.std.specs.Option.{option_map}
use Rattle.sml_tree.specs.Heights.{pats_height, rule_height, bind_height}
use Rattle.sml_tree.specs.TypeViews.{ty_of}
use Rattle.sml_tree.specs.PatternViews.{pat_of}
use Rattle.sml_tree.specs.ExpressionViews.{exp_of, bind_of}
use Rattle.sml_tree.specs.Clauses.{Clause, clause_rule, clause_of}
use Rattle.sml_lex.specs.declared.fault.Place.{Place}
use Rattle.sml_bare_decs.specs.declared.function_rules.LowClause.{LowClause}
use Rattle.sml_fixity.specs.Shapes.{shape_of}
use Rattle.sml_bare_decs.specs.FunctionRules.{heading, function_from}
use Rattle.sml_bare_decs.specs.FunctionViews.{heading_of, right_side_of}
use Rattle.sml_pat_sequences.specs.LowViews.{low_pats_of}
use Rattle.sml_bare_decs.proofs.Clauses.{function_from_high, clause_in_function}
use Rattle.sml_phrases.proofs.Failures.{fails}
use Rattle.sml_bare_decs.proofs.function_rules.function_from.Goals as goal

pub returns-in_err-name : goal.returns-in_err-name
returns-in_err-name c =
    let shape = option_map (λ s. shape_of s.now) c.args.shape in
    let h = function_from_high shape c.args.place (pat_of c.args.first.tree) (right_side_of c.args.right) (map clause_of (reverse c.args.others.trees.items)) in
    fails heading_of (λ h. pats_height h.arguments) (λ b. bind_of b.tree) bind_height (heading shape (pat_of c.args.first.tree) (low_pats_of c.args.right.pats)) (function_from shape c.args.place (pat_of c.args.first.tree) (right_side_of c.args.right) (map clause_of (reverse c.args.others.trees.items)))
    c.in_err-name.field-0.0 c.from_residual.result c.in_err-name.ensures c.from_residual.ensures.1
    (omega (arith, h))

pub returns-in_err-clause : goal.returns-in_err-clause
returns-in_err-clause c =
    let shape = option_map (λ s. shape_of s.now) c.args.shape in
    fails {A = LowClause} {B = Clause Place} (λ c. clause_of c.tree) (λ c. rule_height (clause_rule c)) (λ b. bind_of b.tree) bind_height (record { place = c.args.place; pats = low_pats_of c.in_ok-name.field-0.arguments; result = option_map (λ t. ty_of t.tree) c.args.right.result; body = exp_of c.args.right.body.tree }) (function_from shape c.args.place (pat_of c.args.first.tree) (right_side_of c.args.right) (map clause_of (reverse c.args.others.trees.items)))
    c.in_err-clause.field-0.0 c.from_residual-in_err-clause.result c.in_err-clause.ensures c.from_residual-in_err-clause.ensures.1
    (clause_in_function shape c.args.place (pat_of c.args.first.tree) (right_side_of c.args.right) (map clause_of (reverse c.args.others.trees.items)) (low_pats_of c.in_ok-name.field-0.arguments) (ap (λ h. h.arguments) c.in_ok-name.ensures))
