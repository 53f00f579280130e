use Rattle.sml_tree.specs.PatternViews.{pat_of}
use Rattle.sml_tree.specs.ExpressionViews.{exp_of}
use Rattle.sml_phrases.specs.PhraseViews.{seen}
use Rattle.sml_phrases.proofs.Answers.{puts_same}
use Rattle.sml_phrases.proofs.Drops.{four_off}
use Rattle.sml_bare_decs.proofs.Bindings.{value_made}
use Rattle.sml_bare_decs.proofs.value_rules.value.Goals as goal

pub returns : goal.returns
returns c =
    let v = seen c.args.stack.now in
    puts_same _ _ 4 v (seen c.pop_values-plain.new.stack) _ c.and_value.result
    (value_made v (seen c.pat-pat.new.self) (seen c.skip.new.self) (seen c.exp-exp.new.self) (pat_of c.pat-pat.result.tree) (exp_of c.exp-exp.result.tree) _ _
    c.pat-pat.ensures.rest c.skip.ensures c.exp-exp.ensures.rest c.pat-pat.ensures.value c.exp-exp.ensures.value c.pop_values-plain.ensures.plain c.pop_values-plain.ensures.recursive)
    (four_off v (seen c.pat-pat.new.self) (seen c.skip.new.self) (seen c.exp-exp.new.self) _ c.pat-pat.ensures.rest c.skip.ensures c.exp-exp.ensures.rest c.pop_values-plain.ensures.rest)
    c.and_value.ensures
