use Rattle.std.proofs.Common.{ap, ◌∙◌}
use Rattle.sml_derived.specs.Derived.{while_of}
use Rattle.sml_phrases.specs.Phrases.{at, exp_in}
use Rattle.sml_phrases.specs.PhraseViews.{seen}
use Rattle.sml_bare_exps.specs.ExpressionViews.{low_exp_of}
use Rattle.sml_bare_exps.proofs.Parts.{gives_same, later}
use Rattle.sml_bare_exps.proofs.expression_rules.repetition.Goals as goal

pub returns-clause-made : goal.returns-clause-made
returns-clause-made c =
    let v = seen c.args.stack.now in
    gives_same _ _ c.low_repeat.result
    (ap (λ e. while_of c.args.place e (low_exp_of c.after_word-body.result)) c.after_word-test.ensures.value
    ∙ ap (while_of c.args.place (exp_in (at v 1))) (c.after_word-body.ensures.value ∙ ap (λ x. exp_in x) (later 2 1 v (seen c.after_word-test.new.stack) c.after_word-test.ensures.rest)))
    c.low_repeat.ensures
