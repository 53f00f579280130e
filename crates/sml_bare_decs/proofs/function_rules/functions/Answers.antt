use Rattle.std.proofs.Common.{ap, map, reverse}
use Rattle.sml_tree.specs.TypeViews.{name_of}
use Rattle.sml_tree.specs.ExpressionViews.{bind_of}
use Rattle.sml_phrases.specs.PhraseViews.{seen}
use Rattle.sml_phrases.proofs.Answers.{puts_same}
use Rattle.sml_phrases.proofs.Drops.{next_off}
use Rattle.sml_bare_decs.proofs.Clauses.{functions_fail, functions_made}
use Rattle.sml_bare_decs.proofs.function_rules.functions.Goals as goal

pub returns : goal.returns
returns c =
    puts_same _ _ 4 (seen c.args.stack.now) (seen c.binds-others.new.self) _ c.put_functions.result
    (functions_made (seen c.args.stack.now) (seen c.function_on.new.stack) (map name_of (reverse c.new.result.items)) (bind_of c.in_ok-function.function.tree) _ _ _
    c.in_ok-function.ensures.rest (ap (λ xs. map name_of (reverse xs)) c.new.ensures.items) c.in_ok-all.ensures c.in_ok-function.ensures.made c.binds-others.ensures.value)
    (next_off 3 (seen c.args.stack.now) (seen c.function_on.new.stack) _ c.in_ok-function.ensures.rest c.binds-others.ensures.rest)
    c.put_functions.ensures

pub returns-in_err-function : goal.returns-in_err-function
returns-in_err-function c = functions_fail _ _ 4 (seen c.args.stack.now) _ c.in_err-function.field-0.0 c.from_residual.result c.in_err-function.ensures.made c.from_residual.ensures.1
