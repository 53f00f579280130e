use Rattle.std.proofs.Common.{ap, ◌∙◌}
use Rattle.sml_tree.specs.TypeViews.{name_of}
use Rattle.sml_phrases.specs.Phrases.{of_fields}
use Rattle.sml_phrases.specs.PhraseViews.{seen}
use Rattle.sml_bare_exps.specs.ExpressionViews.{low_exp_of}
use Rattle.sml_phrases.proofs.Answers.{puts_same}
use Rattle.sml_phrases.proofs.Drops.{four_off}
use Rattle.sml_bare_exps.proofs.Parts.{fields_made}
use Rattle.sml_bare_exps.proofs.atom_rules.first_fields.Goals as goal

pub returns : goal.returns
returns c =
    let v = seen c.args.stack.now in
    puts_same _ _ 4 v (seen c.fields.new.self) _ c.put.result
    (ap (λ fs. of_fields fs)
    (c.in_ok-fields.ensures
    ∙ fields_made v (seen c.name.new.self) (seen c.skip.new.self) (seen c.exp-exp.new.self) (name_of c.in_ok-label.label) (low_exp_of c.exp-exp.result) _ c.in_ok-label.ensures.rest c.skip.ensures c.exp-exp.ensures.rest c.in_ok-label.ensures.value c.exp-exp.ensures.value c.fields.ensures.value))
    (four_off v (seen c.name.new.self) (seen c.skip.new.self) (seen c.exp-exp.new.self) _ c.in_ok-label.ensures.rest c.skip.ensures c.exp-exp.ensures.rest c.fields.ensures.rest)
    c.put.ensures
