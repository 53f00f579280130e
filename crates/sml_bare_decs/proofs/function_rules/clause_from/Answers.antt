use Rattle.std.specs.Option.{option_map}
use Rattle.sml_tree.specs.Heights.{pats_height, rule_height}
use Rattle.sml_tree.specs.PatternViews.{pat_of}
use Rattle.sml_tree.specs.Clauses.{clause_rule, clause_of}
use Rattle.sml_fixity.specs.Shapes.{shape_of}
use Rattle.sml_bare_decs.specs.FunctionRules.{heading, clause_from}
use Rattle.sml_bare_decs.specs.FunctionViews.{heading_of, right_side_of}
use Rattle.sml_pat_sequences.specs.LowViews.{low_pats_of}
use Rattle.sml_bare_decs.proofs.Clauses.{clause_from_high}
use Rattle.sml_phrases.proofs.Failures.{fails}
use Rattle.sml_bare_decs.proofs.function_rules.clause_from.Goals as goal

pub returns-in_err-arguments : goal.returns-in_err-arguments
returns-in_err-arguments c =
    let shape = option_map (λ s. shape_of s.now) c.args.shape in
    fails heading_of (λ h. pats_height h.arguments) (λ c. clause_of c.tree) (λ c. rule_height (clause_rule c)) (heading shape (pat_of c.args.first.tree) (low_pats_of c.args.right.pats)) (clause_from shape (pat_of c.args.first.tree) (right_side_of c.args.right))
    c.in_err-arguments.field-0.0 c.from_residual.result c.in_err-arguments.ensures c.from_residual.ensures.1
    (clause_from_high shape (pat_of c.args.first.tree) (right_side_of c.args.right))
