use Rattle.sml_tree.specs.Heights.{exp_height}
use Rattle.sml_phrases.specs.PhraseViews.{seen}
use Rattle.sml_bare_exps.specs.ExpressionViews.{low_exp_of}
use Rattle.sml_phrases.proofs.Answers.{on_ok}
use Rattle.sml_phrases.proofs.Failures.{fails}
use Rattle.sml_bare_exps.proofs.Parts.{gives_same, off, let_made, body_in_let}
use Rattle.sml_bare_exps.proofs.atom_rules.local_exp.Goals as goal

pub returns-in_err-body-clause-made : goal.returns-in_err-body-clause-made
returns-in_err-body-clause-made c =
    fails low_exp_of exp_height low_exp_of exp_height _ _ c.in_err-body.field-0.0 c.from_residual.result c.in_err-body.ensures.made c.from_residual.ensures.1
    (body_in_let c.args.place (seen c.args.stack.now) (seen c.let_decs-decs.new.stack) c.let_decs-decs.ensures.rest)

pub returns-clause-made : goal.returns-clause-made
returns-clause-made c =
    gives_same _ _ c.let_in.result
    (let_made c.args.place (seen c.args.stack.now) (seen c.let_decs-decs.new.stack) _ (low_exp_of c.in_ok-body.body) c.let_decs-decs.ensures.rest c.let_decs-decs.ensures.value c.in_ok-body.ensures.made)
    c.let_in.ensures

pub returns-clause-rest : goal.returns-clause-rest
returns-clause-rest c = on_ok c.let_in.result _ (off 2 3 (seen c.args.stack.now) (seen c.let_decs-decs.new.stack) _ c.let_decs-decs.ensures.rest c.in_ok-body.ensures.rest)
