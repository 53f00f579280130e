use Rattle.std.proofs.Common.{◌∙◌}
use Rattle.sml_phrases.specs.PhraseViews.{seen}
use Rattle.sml_bare_exps.specs.ExpressionViews.{low_exp_of}
use Rattle.sml_phrases.proofs.Drops.{two_off}
use Rattle.sml_bare_exps.proofs.Parts.{exps_made}
use Rattle.sml_bare_exps.proofs.atom_rules.taken_exps.Goals as goal

pub returns-clause-made : goal.returns-clause-made
returns-clause-made c =
    c.in_ok-with.ensures
    ∙ exps_made (seen c.args.stack.now) (seen c.exp-exp.new.self) (low_exp_of c.exp-exp.result) _ c.exp-exp.ensures.rest c.exp-exp.ensures.value c.exps-exps.ensures.value

pub returns-clause-rest : goal.returns-clause-rest
returns-clause-rest c = two_off (seen c.args.stack.now) (seen c.exp-exp.new.self) _ c.exp-exp.ensures.rest c.exps-exps.ensures.rest
