use Rattle.std.proofs.Common.{[], map, reverse}
use Rattle.std.specs.Option.{option_map}
use Rattle.sml_tree.specs.Expressions.{and_bind}
use Rattle.sml_tree.specs.ExpressionViews.{bind_of, binds_of}
use Rattle.sml_tree.specs.Clauses.{clause_of}
use Rattle.sml_phrases.specs.Phrases.{of_functions}
use Rattle.sml_phrases.specs.PhraseViews.{seen}
use Rattle.sml_fixity.specs.Shapes.{shape_of}
use Rattle.sml_pat_sequences.specs.RoundPatterns.{round_pat}
use Rattle.sml_bare_decs.specs.FunctionRules.{function_from}
use Rattle.sml_bare_decs.specs.FunctionViews.{right_side_of}
use Rattle.sml_pat_sequences.specs.LowViews.{low_pats_of}
use Rattle.sml_bare_decs.proofs.Clauses.{round_function_high, put_fails}
use Rattle.sml_bare_decs.proofs.function_rules.round_function.Goals as goal

pub returns-in_err-first : goal.returns-in_err-first
returns-in_err-first c =
    let shape = option_map (λ s. shape_of s.now) c.args.shape in
    let q = round_pat c.args.place (low_pats_of c.args.inner) in
    let cs = map clause_of (reverse c.args.others.trees.items) in
    let bs = binds_of (map bind_of (reverse c.args.binds.trees.items)) in
    put_fails q (of_functions [] (and_bind (function_from shape c.args.place q (right_side_of c.args.right) cs) bs)) 0 (seen c.args.stack.now) _ c.in_err-first.field-0.0 c.from_residual.result c.in_err-first.ensures c.from_residual.ensures.1
    (round_function_high shape c.args.place q (right_side_of c.args.right) cs bs)
