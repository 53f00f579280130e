use Rattle.std.proofs.Common.{◌≡◌, map, reverse, subst, IfOk}
use Rattle.sml_tree.specs.ExpressionViews.{bind_of, binds_of}
use Rattle.sml_phrases.specs.PhraseViews.{seen}
use Rattle.sml_bare_decs.proofs.Clauses.{binds_made}
use Rattle.sml_bare_decs.proofs.function_rules.all_functions.Goals as goal

pub returns-clause-made : goal.returns-clause-made
returns-clause-made c =
    subst (λ x. IfOk c.and_bind.result (λ bs. binds_of (map bind_of (reverse bs.trees.items)) ≡ x))
    (binds_made (seen c.args.stack.now) (seen c.bind-first.new.self) (bind_of c.bind-first.result.tree) _ c.bind-first.ensures.rest c.bind-first.ensures.value c.binds-others.ensures.value)
    c.and_bind.ensures
