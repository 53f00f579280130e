use Rattle.std.proofs.Common.{ap, ◌∙◌, map, reverse}
use Rattle.std.specs.Option.{option_map}
use Rattle.sml_tree.specs.Clauses.{clause_of}
use Rattle.sml_phrases.specs.Phrases.{of_clauses}
use Rattle.sml_phrases.specs.PhraseViews.{seen}
use Rattle.sml_fixity.specs.Shapes.{shape_of}
use Rattle.sml_phrases.proofs.Answers.{puts_same}
use Rattle.sml_bare_decs.proofs.Clauses.{clauses_off, clauses_made}
use Rattle.sml_bare_decs.proofs.function_rules.clause_before.Goals as goal

pub returns : goal.returns
returns c =
    puts_same _ _ 4 (seen c.args.stack.now) (seen c.clauses-others.new.self) _ c.put.result
    (ap (λ cs. of_clauses cs) c.in_ok-all.ensures
    ∙ clauses_made (option_map (λ s. shape_of s.now) c.args.shape) (seen c.args.stack.now) (seen c.skip.new.self) (seen c.clause_on.new.stack) (clause_of c.in_ok-clause.clause.tree) (map clause_of (reverse c.clauses-others.result.trees.items))
    c.skip.ensures c.in_ok-clause.ensures.rest c.in_ok-clause.ensures.made c.clauses-others.ensures.value)
    (clauses_off (seen c.args.stack.now) (seen c.skip.new.self) (seen c.clause_on.new.stack) _ c.skip.ensures c.in_ok-clause.ensures.rest c.clauses-others.ensures.rest)
    c.put.ensures
