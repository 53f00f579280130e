use Rattle.std.proofs.Common.{ap, ◌∙◌}
use Rattle.sml_tree.specs.PatternViews.{pat_of}
use Rattle.sml_phrases.specs.Phrases.{of_rules}
use Rattle.sml_phrases.specs.PhraseViews.{seen}
use Rattle.sml_bare_exps.specs.ExpressionViews.{low_exp_of}
use Rattle.sml_phrases.proofs.Answers.{puts_same}
use Rattle.sml_phrases.proofs.Drops.{four_off}
use Rattle.sml_bare_exps.proofs.Parts.{rules_made}
use Rattle.sml_bare_exps.proofs.expression_rules.more_rules.Goals as goal

pub returns : goal.returns
returns c =
    let v = seen c.args.stack.now in
    puts_same _ _ 4 v (seen c.rules.new.self) _ c.put.result
    (ap (λ rs. of_rules rs)
    (c.in_ok-rules.ensures
    ∙ rules_made c.args.place v (seen c.pat-pat.new.self) (seen c.skip.new.self) (seen c.exp-exp.new.self) (pat_of c.pat-pat.result.tree) (low_exp_of c.exp-exp.result) _ c.pat-pat.ensures.rest c.skip.ensures c.exp-exp.ensures.rest c.pat-pat.ensures.value c.exp-exp.ensures.value c.rules.ensures.value))
    (four_off v (seen c.pat-pat.new.self) (seen c.skip.new.self) (seen c.exp-exp.new.self) _ c.pat-pat.ensures.rest c.skip.ensures c.exp-exp.ensures.rest c.rules.ensures.rest)
    c.put.ensures
