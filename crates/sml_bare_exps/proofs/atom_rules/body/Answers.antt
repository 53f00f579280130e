use Rattle.sml_phrases.specs.PhraseViews.{seen}
use Rattle.sml_bare_exps.specs.ExpressionViews.{low_exp_of}
use Rattle.sml_phrases.proofs.Answers.{on_ok}
use Rattle.sml_phrases.proofs.Drops.{two_off}
use Rattle.sml_bare_exps.proofs.Parts.{gives_same, body_made}
use Rattle.sml_bare_exps.proofs.atom_rules.body.Goals as goal

pub returns-clause-made : goal.returns-clause-made
returns-clause-made c =
    gives_same _ _ c.series.result
    (body_made (seen c.args.stack.now) (seen c.exp-exp.new.self) c.exp_place-place.result (low_exp_of c.exp-exp.result) _ _ c.exp-exp.ensures.rest c.exp-exp.ensures.value c.exps.ensures.value c.exp_place-place.ensures c.in_ok-exps.ensures)
    c.series.ensures

pub returns-clause-rest : goal.returns-clause-rest
returns-clause-rest c = on_ok c.series.result _ (two_off (seen c.args.stack.now) (seen c.exp-exp.new.self) _ c.exp-exp.ensures.rest c.exps.ensures.rest)
